-- Two runs, the one with some spoils struck out.
use Rattle.std.proofs.Common.{◌≡◌, ℕ, ◌<◌, ◌≤◌, Bool, true, false, ◌⊎◌, List, [], ◌∷◌, length, set, Some, None, Ok, Err, Option, Result, sym, refl, ap, ◌∙◌, subst, ap₂, inl, inr, arith, length-set}
use Rattle.std.specs.List.{AllByRecursion}
use Rattle.std.proofs.lemmas.List.{get_or-set_same, get_or-set_other, set_past}
use Rattle.std.proofs.lemmas.Bool.{cases_eq, cases_lt}
use Rattle.std.proofs.ByRecursion.{All-weaker}
use Rattle.field.specs.Algebra.{Lawful}
use Rattle.cells.specs.declared.entries.Entry.{Entry}
use Rattle.cells.specs.declared.entries.Entry.TheVariants.{Missing}
use Rattle.readings.specs.declared.kinds.Reading.{Reading}
use Rattle.readings.specs.declared.kinds.AnsweredLine.{AnsweredLine}
use Rattle.readings.specs.declared.kinds.AnswerFault.{AnswerFault}
use Rattle.line.specs.Asking.{target, line_place}
use Rattle.line.specs.Lines.{seen, line_readings}
use Rattle.plate.specs.declared.faults.PlateFault.{PlateFault}
use Rattle.plate.specs.declared.calls.Reply.TheVariants.{Told}
use Rattle.plate.specs.Settings.{Setting}
use Rattle.plate.specs.Requests.{Request, Answer, Cells, entry, refusal, Sound, codeword, line_answer, mended, Does, Unless, Happens}
use Rattle.plate.specs.Requests.Request.{Burn, Spoil, Read, Correct, Mend}
use Rattle.runs.specs.Histories.{Moment, History, Leads, Ran, requests, answers, MarksRead, Reads, IsSpoil, No, UnreadSpoil, without, only}
use Rattle.runs.specs.Laws.{UnreadSpoils}
use Rattle.runs.proofs.OnLines.{one_reply}

-- the cells agree where K holds
abbrev Agree : (ℕ → Type 0) → Cells → Cells → Type 0
Agree K x y = (length x ≡ length y) × ((p : ℕ) → K p → entry x p ≡ entry y p)

agree_by : (K : ℕ → Type 0) (x y u v : Cells) → u ≡ x → v ≡ y → Agree K x y → Agree K u v
agree_by K x y u v e f g = subst (λ (l : Cells). Agree K l v) (sym e) (subst (λ (l : Cells). Agree K x l) (sym f) g)

set_alike : (x y : Cells) (p i : ℕ) (e : Entry) → length x ≡ length y → entry x i ≡ entry y i → (p ≡ i) ⊎ (p ≡ i → ⊥) → (p < length x) ⊎ (length x ≤ p)
    → entry (set x p e) i ≡ entry (set y p e) i
set_alike x y p i e l k (inr n) h = get_or-set_other x p i e Missing (λ j. n (sym j)) ∙ k ∙ sym (get_or-set_other y p i e Missing (λ j. n (sym j)))
set_alike x y p i e l k (inl j) (inl h) =
    let u = get_or-set_same x p e Missing h in
    let v = get_or-set_same y p e Missing (omega arith) in
    cc
set_alike x y p i e l k (inl j) (inr h) =
    let u = set_past x p e h in
    let v = set_past y p e (omega arith) in
    cc

agree_set : (K : ℕ → Type 0) (x y : Cells) (p : ℕ) (e : Entry) → Agree K x y → Agree K (set x p e) (set y p e)
agree_set K x y p e g =
    (length-set x p e ∙ g.0 ∙ sym (length-set y p e), λ i k. set_alike x y p i e g.0 (g.1 i k) (cases_eq p i) (cases_lt p (length x)))

agree_mended : (K : ℕ → Type 0) (x y : Cells) (w : ℕ) (r : Result AnsweredLine AnswerFault) → Agree K x y → Agree K (mended x w r) (mended y w r)
agree_mended K x y w (Ok a) g = agree_set K x y w _ g
agree_mended K x y w (Err f) g = g

readings_alike : (s : Setting) (K : ℕ → Type 0) (x y : Cells) (w v : ℕ) (marks : List ℕ) → ((p : ℕ) → MarksRead s p w v marks → K p) → Agree K x y
    → line_readings s.field s.m x w v marks ≡ line_readings s.field s.m y w v marks
readings_alike s K x y w v [] k g = refl
readings_alike s K x y w v (t ∷ ts) k g =
    let place = line_place s.field s.m w v t in
    let R : Entry → Reading = λ e. record { mark = t; divisor = (target s.field s.m w v t).divisor; entry = seen s.field.size e } in
    ap₂ (λ a b. a ∷ b) (ap R (g.1 place (k place (inl refl)))) (readings_alike s K x y w v ts (λ p a. k p (inr a)) g)

module _ (s : Setting) (L : Lawful s.field) (wide : s.m ≤ 3) (K : ℕ → Type 0) (x y : Cells) (g : Agree K x y) (a b : Answer) (u v : Cells) where
  does_alike : (z : Request) → Sound s z → ((p : ℕ) → Reads s p z → K p) → Does s x z a u → Does s y z b v → (a ≡ b) × Agree K u v
  does_alike (Burn form) o k d e = (d.0 ∙ sym e.0, agree_by K (codeword s form) (codeword s form) u v d.1 e.1 (refl, λ p h. refl))
  does_alike (Spoil p t) o k d e = (d.0 ∙ sym e.0, agree_by K (set x p t) (set y p t) u v d.1 e.1 (agree_set K x y p t g))
  does_alike (Read p) o k d e = (d.0 ∙ ap (λ t. Ok (Told t)) (g.1 p (k p refl)) ∙ sym e.0, agree_by K x y u v d.1 e.1 g)
  does_alike (Correct w n marks) o k d e =
      let same = one_reply s L wide w n marks o x y (readings_alike s K x y w n marks (λ p h. k p (o, h)) g) d.0 e.0 d.1 e.1 in
      (d.2 ∙ ap line_answer same ∙ sym e.2, agree_by K x y u v d.3 e.3 g)
  does_alike (Mend w n marks) o k d e =
      let same = one_reply s L wide w n marks o x y (readings_alike s K x y w n marks (λ p h. k p (o, h)) g) d.0 e.0 d.1 e.1 in (
        d.2 ∙ ap line_answer same ∙ sym e.2,
        agree_by K (mended x w e.0) (mended y w e.0) u v (d.3 ∙ ap (mended x w) same) e.3 (agree_mended K x y w e.0 g),
      )

  unless_alike : (z : Request) (o : Option PlateFault) → refusal s z ≡ o → ((p : ℕ) → Reads s p z → K p) → Unless o x a u (Does s x z a u) → Unless o y b v (Does s y z b v)
      → (a ≡ b) × Agree K u v
  unless_alike z (Some f) o k d e = (d.0 ∙ sym e.0, agree_by K x y u v d.1 e.1 g)
  unless_alike z None o k d e = does_alike z o k d e

-- a struck call: a spoil, and of no cell where K holds
abbrev Off : (ℕ → Type 0) → Request → Type 0
Off K z = ((p : ℕ) × IsSpoil p z) × ((i : ℕ) → K i → IsSpoil i z → ⊥)

module _ (s : Setting) (K : ℕ → Type 0) (x y : Cells) (g : Agree K x y) (a : Answer) (u : Cells) where
  struck_spoil : (p : ℕ) (e : Entry) (o : Option PlateFault) → ((i : ℕ) → K i → p ≡ i → ⊥) → Unless o x a u (Does s x (Spoil p e) a u) → Agree K u y
  struck_spoil p e (Some f) off d = agree_by K x y u y d.1 refl g
  struck_spoil p e None off d =
      agree_by K (set x p e) y u y d.1 refl (length-set x p e ∙ g.0, λ i k. get_or-set_other x p i e Missing (λ j. off i k (sym j)) ∙ g.1 i k)

  struck_one : (z : Request) → Off K z → Happens s x z a u → Agree K u y
  struck_one (Burn form) off d = absurd off.0.1
  struck_one (Spoil p e) off d = struck_spoil p e (refusal s (Spoil p e)) off.1 d
  struck_one (Read p) off d = absurd off.0.1
  struck_one (Correct w v marks) off d = absurd off.0.1
  struck_one (Mend w v marks) off d = absurd off.0.1

nil_cons : {X : Type 0} (a : X) (l : List X) → a ∷ l ≡ [] → ⊥
nil_cons a l e = let z : ◌≡◌ {A = ℕ} 0 1 = cc in omega arith

module _ (s : Setting) (L : Lawful s.field) (wide : s.m ≤ 3) (K : ℕ → Type 0) where
  abbrev Same : List Bool → History → History → Cells → Cells → Type 0
  Same struck h k x y = (answers k ≡ without struck (answers h)) × Agree K x y

  -- one call more in both histories
  both : (x y : Cells) (m n : Moment) → m.before ≡ x → n.before ≡ y → n.request ≡ m.request → ((p : ℕ) → Reads s p m.request → K p) → Agree K x y
      → Happens s m.before m.request m.answer m.after → Happens s n.before n.request n.answer n.after
      → (m.answer ≡ n.answer) × Agree K m.after n.after
  both x y m n e f c k g d t =
      unless_alike s L wide K m.before n.before (agree_by K x y m.before n.before e f g) m.answer n.answer m.after n.after m.request (refusal s m.request) refl k d
      (subst (λ (z : Request). Happens s n.before z n.answer n.after) c t)

  runs_alike : (h : History) (struck : List Bool) (k : History) (x y u v : Cells) → Leads s x h u → Leads s y k v → requests k ≡ without struck (requests h)
      → AllByRecursion (λ z. (p : ℕ) → Reads s p z → K p) (requests h) → AllByRecursion (Off K) (only struck (requests h)) → Agree K x y → Same struck h k u v
  runs_alike [] struck [] x y u v r t e reads off g = (refl, agree_by K x y u v (sym r) (sym t) g)
  runs_alike [] struck (n ∷ k) x y u v r t e reads off g = absurd (nil_cons _ _ e)
  runs_alike (m ∷ h) [] [] x y u v r t e reads off g = absurd (nil_cons _ _ (sym e))
  runs_alike (m ∷ h) [] (n ∷ k) x y u v r t e reads off g =
      let call : n.request ≡ m.request = cc in
      let rest : requests k ≡ without [] (requests h) = cc in
      let one = both x y m n r.0 t.0 call reads.0 g r.1 t.1 in
      let more = runs_alike h [] k m.after n.after u v r.2 t.2 rest reads.1 off one.1 in
      (ap₂ (λ (i : Answer) (j : List Answer). i ∷ j) (sym one.0) more.0, more.1)
  runs_alike (m ∷ h) (true ∷ struck) k x y u v r t e reads off g =
      let start = agree_by K x y m.before y r.0 refl g in
      runs_alike h struck k m.after y u v r.2 t e reads.1 off.1 (struck_one s K m.before y start m.answer m.after m.request off.0 r.1)
  runs_alike (m ∷ h) (false ∷ struck) [] x y u v r t e reads off g = absurd (nil_cons _ _ (sym e))
  runs_alike (m ∷ h) (false ∷ struck) (n ∷ k) x y u v r t e reads off g =
      let call : n.request ≡ m.request = cc in
      let rest : requests k ≡ without struck (requests h) = cc in
      let one = both x y m n r.0 t.0 call reads.0 g r.1 t.1 in
      let more = runs_alike h struck k m.after n.after u v r.2 t.2 rest reads.1 off one.1 in
      (ap₂ (λ (i : Answer) (j : List Answer). i ∷ j) (sym one.0) more.0, more.1)

-- K: no struck spoil of the cell

unspoilt : (S : List Request) (P : ℕ → Request → Type 0) → AllByRecursion (λ z. (i : ℕ) → No (P i) S → P i z → ⊥) S
unspoilt [] P = tt
unspoilt (z ∷ S) P = ((λ i n. n.0), All-weaker _ _ (λ y f i n. f i n.1) S (unspoilt S P))

all_both : {X : Type 0} (P Q : X → Type 0) (xs : List X) → AllByRecursion P xs → AllByRecursion Q xs → AllByRecursion (λ x. P x × Q x) xs
all_both P Q [] p q = tt
all_both P Q (x ∷ xs) p q = ((p.0, q.0), all_both P Q xs p.1 q.1)

same_spoil : (z : Request) (i j : ℕ) → IsSpoil i z → IsSpoil j z → i ≡ j
same_spoil (Burn form) i j p q = absurd p
same_spoil (Spoil k e) i j p q = sym p ∙ q
same_spoil (Read k) i j p q = absurd p
same_spoil (Correct w v marks) i j p q = absurd p
same_spoil (Mend w v marks) i j p q = absurd p

-- a cell that a call of the list reads has no struck spoil
read_unspoilt : (s : Setting) (xs S : List Request) → AllByRecursion (UnreadSpoil s xs) S → AllByRecursion (λ z. (p : ℕ) → Reads s p z → No (IsSpoil p) S) xs
read_unspoilt s xs S u =
    All-weaker _ _ (λ z f p reads. All-weaker _ _ (λ y t spoil. f p (subst (λ i. No (Reads s i) xs) (same_spoil y t.0 p t.1 spoil) t.2) reads) S u) xs
    (unspoilt xs (Reads s))

pub unread_spoils : (s : Setting) → Lawful s.field → s.m ≤ 3 → (x : Cells) (zs : List Request) (said : List Answer) (y : Cells) → Ran s x zs said y → UnreadSpoils s x zs said y
unread_spoils s L wide x zs said y r struck unread told u t =
    let called = r.called in
    let S : List Request = only struck (requests r.history) in
    let spoils : AllByRecursion (UnreadSpoil s (requests r.history)) S = subst (λ (l : List Request). AllByRecursion (UnreadSpoil s l) (only struck l)) (sym called) unread in
    let off = all_both (λ z. (p : ℕ) × IsSpoil p z) _ S (All-weaker _ _ (λ z k. (k.0, k.1)) S spoils) (unspoilt S IsSpoil) in
    let same =
    runs_alike s L wide (λ p. No (IsSpoil p) S) r.history struck t.history x x y u r.leads t.leads (t.called ∙ ap (without struck) (sym called))
    (read_unspoilt s (requests r.history) S spoils) off (refl, λ p n. refl) in (
      sym t.told ∙ same.0 ∙ ap (without struck) r.told,
      λ p n. sym (same.1.1 p (subst (λ (l : List Request). No (IsSpoil p) (only struck l)) (sym called) n)),
    )
