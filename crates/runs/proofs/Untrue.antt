-- A cell that lost its true symbol.
use Rattle.std.proofs.Common.{◌≡◌, ℕ, zero, suc, ◌<◌, ◌≤◌, ◌⊎◌, List, [], ◌∷◌, length, set, Some, None, Ok, Err, Option, Result, sym, refl, ap, ◌∙◌, subst, inl, inr, arith, length-set}
use Rattle.std.proofs.lemmas.List.{get_or-set_same, get_or-set_other}
use Rattle.std.proofs.lemmas.List.FromFn.{length-map-range_with_len, get_or-map-range_with_len}
use Rattle.std.proofs.lemmas.Bool.{cases_eq}
use Rattle.field.specs.Algebra.{Lawful}
use Rattle.cells.specs.declared.entries.Entry.{Entry}
use Rattle.cells.specs.declared.entries.Entry.TheVariants.{Symbol, Missing}
use Rattle.readings.specs.declared.kinds.AnsweredLine.{AnsweredLine}
use Rattle.readings.specs.declared.kinds.AnswerFault.{AnswerFault}
use Rattle.plate.specs.declared.faults.PlateFault.{PlateFault}
use Rattle.plate.specs.declared.calls.Reply.{Reply}
use Rattle.plate.specs.declared.calls.Reply.TheVariants.{Done, Corrected}
use Rattle.plate.specs.Settings.{Setting}
use Rattle.plate.specs.Requests.{Request, Answer, Cells, entry, refusal, Sound, codeword, line_answer, mended, LineAnswers, Does, Unless, Happens}
use Rattle.plate.specs.Requests.Request.{Burn, Spoil, Read, Correct, Mend}
use Rattle.runs.specs.Histories.{Moment, History, Leads, At, Accepted, Burns, true_symbol, IsPut, Puts, LastPut, Mars}
use Rattle.runs.specs.Laws.{UntrueExplained}
use Rattle.runs.proofs.OnLines.{fair_reply}
use Rattle.runs.proofs.Moments.{unless_none, refused_not, burned_sound}

ok_accepted : (a : Answer) (r : Reply) → a ≡ Ok r → Accepted a
ok_accepted a r e = subst Accepted (sym e) tt

-- no call changes the count

mend_length : (x : Cells) (w : ℕ) (r : Result AnsweredLine AnswerFault) → length (mended x w r) ≡ length x
mend_length x w (Ok a) = length-set x w _
mend_length x w (Err f) = refl

does_length : (s : Setting) (x : Cells) (z : Request) (a : Answer) (y : Cells) → Does s x z a y → length x ≡ s.count → length y ≡ s.count
does_length s x (Burn form) a y d l = ap length d.1 ∙ length-map-range_with_len _ 0 s.count
does_length s x (Spoil i e) a y d l = ap length d.1 ∙ length-set x i e ∙ l
does_length s x (Read i) a y d l = ap length d.1 ∙ l
does_length s x (Correct w v marks) a y d l = ap length d.3 ∙ l
does_length s x (Mend w v marks) a y d l = ap length d.3 ∙ mend_length x w d.0 ∙ l

unless_length : (s : Setting) (x : Cells) (z : Request) (a : Answer) (y : Cells) (o : Option PlateFault) → Unless o x a y (Does s x z a y) → length x ≡ s.count → length y ≡ s.count
unless_length s x z a y (Some f) u l = ap length u.1 ∙ l
unless_length s x z a y None u l = does_length s x z a y u l

pub happens_length : (s : Setting) (x : Cells) (z : Request) (a : Answer) (y : Cells) → Happens s x z a y → length x ≡ s.count → length y ≡ s.count
happens_length s x z a y h l = unless_length s x z a y (refusal s z) h l

-- a call spoilt p or mended it on an unfair line, or left it alone
abbrev MarredOrKept : Setting → List ℕ → ℕ → Cells → Request → Answer → Cells → Type 0
MarredOrKept s form p x z a y = (IsPut p z × Accepted a × Mars s form x z) ⊎ ((IsPut p z × Accepted a → ⊥) × (entry y p ≡ entry x p))

set_kept : (x y : Cells) (i p : ℕ) (e : Entry) → y ≡ set x i e → (i ≡ p → ⊥) → entry y p ≡ entry x p
set_kept x y i p e k n = ap (λ (l : Cells). entry l p) k ∙ get_or-set_other x i p e Missing (λ j. n (sym j))

set_there : (x y : Cells) (i p : ℕ) (e : Entry) → y ≡ set x i e → i ≡ p → p < length x → entry y p ≡ e
set_there x y i p e k j h = ap (λ (l : Cells). entry l p) (k ∙ ap (λ n. set x n e) j) ∙ get_or-set_same x p e Missing h

module _ (s : Setting) (L : Lawful s.field) (wide : s.m ≤ 3) (form : List ℕ) (sound : Sound s (Burn form)) (p : ℕ) where
  abbrev Untrue : Cells → Type 0
  Untrue x = entry x p ≡ Symbol (true_symbol s form p) → ⊥

  module _ (x : Cells) (a : Answer) (y : Cells) (within : p < length x) (untrue : Untrue y) where
    spoil_step : (i : ℕ) (e : Entry) → a ≡ Ok Done → y ≡ set x i e → (i ≡ p) ⊎ (i ≡ p → ⊥) → MarredOrKept s form p x (Spoil i e) a y
    spoil_step i e ok k (inl j) = inl (j, ok_accepted a Done ok, tt)
    spoil_step i e ok k (inr n) = inr ((λ j. n j.0), set_kept x y i p e k n)

    mend_step : (w v : ℕ) (marks : List ℕ) → Sound s (Correct w v marks) → (r : Result AnsweredLine AnswerFault) → LineAnswers s x w v marks r
        → a ≡ line_answer r → y ≡ mended x w r → (w ≡ p) ⊎ (w ≡ p → ⊥) → MarredOrKept s form p x (Mend w v marks) a y
    mend_step w v marks line (Err f) ans e k j = inr ((λ t. refused_not a _ e t.1), ap (λ (l : Cells). entry l p) k)
    mend_step w v marks line (Ok t) ans e k (inl j) =
        inl (
          j,
          ok_accepted a (Corrected t) e,
          λ fair.
              let right = fair_reply s L wide w v marks line form sound x fair (Ok t) ans in
              let symbol : t.symbol ≡ true_symbol s form w = ap told_symbol right in
              untrue (set_there x y w p _ k j within ∙ ap Symbol (symbol ∙ ap (true_symbol s form) j)),
        )
      where
        told_symbol : Result AnsweredLine AnswerFault → ℕ
        told_symbol (Ok b) = b.symbol
        told_symbol (Err f) = 0
    mend_step w v marks line (Ok t) ans e k (inr n) = inr ((λ j. n j.0), set_kept x y w p _ k n)

    does_step : (z : Request) → Sound s z → ((other : List ℕ) → (z ≡ Burn other) × Accepted a → ⊥) → Does s x z a y → MarredOrKept s form p x z a y
    does_step (Burn other) o no-burn d = absurd (no-burn other (refl, ok_accepted a Done d.0))
    does_step (Spoil i e) o no-burn d = spoil_step i e d.0 d.1 (cases_eq i p)
    does_step (Read i) o no-burn d = inr ((λ k. k.0), ap (λ (l : Cells). entry l p) d.1)
    does_step (Correct w v marks) o no-burn d = inr ((λ k. k.0), ap (λ (l : Cells). entry l p) d.3)
    does_step (Mend w v marks) o no-burn d = mend_step w v marks o d.0 d.1 d.2 d.3 (cases_eq w p)

    unless_step : (z : Request) (o : Option PlateFault) → refusal s z ≡ o → ((other : List ℕ) → (z ≡ Burn other) × Accepted a → ⊥) → Unless o x a y (Does s x z a y)
        → MarredOrKept s form p x z a y
    unless_step z (Some f) o no-burn u = inr ((λ k. refused_not a f u.0 k.1), ap (λ (l : Cells). entry l p) u.1)
    unless_step z None o no-burn u = does_step z o no-burn u

  -- the same of a history with no accepted burn

  pub record Marred (h : History) : Type 0 where
    pub moment : Moment
    pub position : ℕ
    pub there : At h position moment
    pub puts : Puts p moment
    pub none_later : (k : ℕ) (n : Moment) → position < k → At h k n → Puts p n → ⊥
    pub mars : Mars s form moment.before moment.request

  abbrev NoBurn : History → Type 0
  NoBurn h = (k : ℕ) (m : Moment) → At h k m → (other : List ℕ) → Burns other m → ⊥

  abbrev NoPut : History → Type 0
  NoPut h = (k : ℕ) (m : Moment) → At h k m → Puts p m → ⊥

  no_put_more : (m : Moment) (h : History) → (Puts p m → ⊥) → NoPut h → NoPut (m ∷ h)
  no_put_more m h one rest zero n at = subst (λ (k : Moment). Puts p k → ⊥) at one
  no_put_more m h one rest (suc k) n at = rest k n at

  marred_first : (m : Moment) (h : History) → Puts p m → NoPut h → Mars s form m.before m.request → Marred (m ∷ h)
  marred_first m h puts none mars = record { moment = m; position = 0; there = refl; puts = puts; none_later = later; mars = mars }
    where
      later : (k : ℕ) (n : Moment) → 0 < k → At (m ∷ h) k n → Puts p n → ⊥
      later zero n l at = absurd (omega arith)
      later (suc k) n l at = none k n at

  marred_later : (m : Moment) (h : History) → Marred h → Marred (m ∷ h)
  marred_later m h t =
      record { moment = t.moment; position = suc t.position; there = t.there; puts = t.puts; none_later = later; mars = t.mars }
    where
      later : (k : ℕ) (n : Moment) → suc t.position < k → At (m ∷ h) k n → Puts p n → ⊥
      later zero n l at = absurd (omega arith)
      later (suc k) n l at = t.none_later k n (omega arith) at

  one_more : (x : Cells) (m : Moment) (h : History) → m.before ≡ x
      → (Untrue m.after → MarredOrKept s form p m.before m.request m.answer m.after)
      → (NoPut h × Untrue m.after) ⊎ Marred h → (NoPut (m ∷ h) × Untrue x) ⊎ Marred (m ∷ h)
  one_more x m h b one (inr t) = inr (marred_later m h t)
  one_more x m h b one (inl (none, untrue)) =
      let t : MarredOrKept s form p m.before m.request m.answer m.after = one untrue in
      elim t [
        | inl k ↦ inr (marred_first m h (k.0, k.1) none k.2)
        | inr k ↦ inl (no_put_more m h k.0 none, λ e. untrue (k.1 ∙ ap (λ (l : Cells). entry l p) b ∙ e))
      ]

  marred_or_none : p < s.count → (x : Cells) (h : History) (y : Cells) → length x ≡ s.count → Leads s x h y → NoBurn h → Untrue y → (NoPut h × Untrue x) ⊎ Marred h
  marred_or_none within x [] y l r no-burn untrue = inl ((λ k m at. absurd at), λ e. untrue (ap (λ (c : Cells). entry c p) (sym r) ∙ e))
  marred_or_none within x (m ∷ h) y l r no-burn untrue =
      let before : length m.before ≡ s.count = ap length r.0 ∙ l in
      let after = happens_length s m.before m.request m.answer m.after r.1 before in
      one_more x m h r.0
      (λ u. unless_step m.before m.answer m.after (omega (arith, before)) u m.request (refusal s m.request) refl (no-burn 0 m refl) r.1)
      (marred_or_none within m.after h y after r.2 (λ k n at. no-burn (suc k) n at) untrue)

  -- a history that begins with the true symbol
  marred : p < s.count → (x : Cells) (h : History) (y : Cells) → length x ≡ s.count → Leads s x h y → NoBurn h → Untrue y → entry x p ≡ Symbol (true_symbol s form p) → Marred h
  marred within x h y l r no-burn untrue e = elim (marred_or_none within x h y l r no-burn untrue) [ inl t ↦ absurd (t.1 e) | inr t ↦ t ]

at_within : (h : History) (k : ℕ) (m : Moment) → At h k m → k < length h
at_within [] k m at = absurd at
at_within (n ∷ h) zero m at = omega arith
at_within (n ∷ h) (suc k) m at = omega (arith, at_within h k m at)

-- an accepted burn leaves the form's codeword
burned : (s : Setting) (form : List ℕ) (m : Moment) → Happens s m.before m.request m.answer m.after → Burns form m → m.after ≡ codeword s form
burned s form m h b =
    (unless_none (refusal s (Burn form)) m.before m.answer m.after _ (burned_sound s form m h b)
    (subst (λ (z : Request). Happens s m.before z m.answer m.after) b.0 h)).1

module _ (s : Setting) (L : Lawful s.field) (wide : s.m ≤ 3) (form : List ℕ) (p : ℕ) (within : p < s.count) where
  abbrev Explained : History → ℕ → Type 0
  Explained h j = (m : Moment) × LastPut h j p m × Mars s form m.before m.request

  after_burn : (x : Cells) (b : Moment) (h : History) (y : Cells) → length b.after ≡ s.count → Leads s x (b ∷ h) y → Burns form b
      → ((k : ℕ) (m : Moment) → At h k m → (other : List ℕ) → Burns other m → ⊥) → (entry y p ≡ Symbol (true_symbol s form p) → ⊥) → Explained (b ∷ h) 0
  after_burn x b h y l r burns none untrue =
      let true-there : entry b.after p ≡ Symbol (true_symbol s form p) =
      ap (λ (c : Cells). entry c p) (burned s form b r.1 burns) ∙ get_or-map-range_with_len (λ i. Symbol (true_symbol s form i)) 0 s.count p p Missing within (omega arith) in
      let t = marred s L wide form (burned_sound s form b r.1 burns) p within b.after h y l r.2 none untrue true-there in
      (t.moment, record { position = suc t.position; there = t.there; since = omega arith; puts = t.puts; none_later = later t.position t.none_later }, t.mars)
    where
      later : (i : ℕ) → ((k : ℕ) (n : Moment) → i < k → At h k n → Puts p n → ⊥) → (k : ℕ) (n : Moment) → suc i < k → At (b ∷ h) k n → Puts p n → ⊥
      later i none zero n l at = absurd (omega arith)
      later i none (suc k) n l at = none k n (omega arith) at

  explained_later : (m : Moment) (h : History) (j : ℕ) → Explained h j → Explained (m ∷ h) (suc j)
  explained_later m h j (n, t, mars) =
      (n, record { position = suc t.position; there = t.there; since = omega (arith, t.since); puts = t.puts; none_later = later }, mars)
    where
      later : (k : ℕ) (o : Moment) → suc t.position < k → At (m ∷ h) k o → Puts p o → ⊥
      later zero o l at = absurd (omega arith)
      later (suc k) o l at = t.none_later k o (omega arith) at

  explained : (x : Cells) (h : History) (y : Cells) (j : ℕ) (b : Moment) → length x ≡ s.count → Leads s x h y → At h j b → Burns form b
      → ((k : ℕ) (m : Moment) → j < k → At h k m → (other : List ℕ) → Burns other m → ⊥) → (entry y p ≡ Symbol (true_symbol s form p) → ⊥) → Explained h j
  explained x [] y j b l r at burns none untrue = absurd at
  explained x (m ∷ h) y zero b l r at burns none untrue =
      let after = happens_length s m.before m.request m.answer m.after r.1 (ap length r.0 ∙ l) in
      after_burn x m h y after r (subst (Burns form) (sym at) burns) (λ k n a. none (suc k) n (omega arith) a) untrue
  explained x (m ∷ h) y (suc j) b l r at burns none untrue =
      let after = happens_length s m.before m.request m.answer m.after r.1 (ap length r.0 ∙ l) in
      explained_later m h j (explained m.after h y j b after r.2 at burns (λ k n i a. none (suc k) n (omega arith) a) untrue)

pub untrue_explained : (s : Setting) → Lawful s.field → s.m ≤ 3 → (x : Cells) (h : History) (y : Cells) → length x ≡ s.count → Leads s x h y → UntrueExplained s h y
untrue_explained s L wide x h y l r form j b p within untrue =
    explained s L wide form p within x h y j b.burn l r b.there b.burns (λ k m i at. b.none_later k m i (at_within h k m at) at) untrue
