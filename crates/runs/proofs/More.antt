-- One call of a run more, and the law of the whole.
use Rattle.std.proofs.Common.{◌≡◌, ℕ, ◌+◌, ◌<◌, ◌≤◌, List, [], ◌∷◌, ◌++◌, map, length, get_or, take, sym, refl, ap, ◌∙◌, subst, ap₂}
use Rattle.std.proofs.lemmas.List.{map-append, take_more, take_all}
use Rattle.field.specs.Algebra.{Algebra, Lawful}
use Rattle.space.specs.declared.shape.Shape.{Shape}
use Rattle.cells.specs.Stores.{Meaning}
use Rattle.plate.specs.declared.calls.Call.{Call}
use Rattle.plate.specs.Settings.{Setting, setting_of}
use Rattle.plate.specs.Requests.{Request, Answer, Cells, Happens, Acts}
use Rattle.plate.specs.Asked.{request}
use Rattle.runs.specs.Histories.{Moment, History, Leads, Ran}
use Rattle.runs.specs.Laws.{LawfulRun}
use Rattle.runs.proofs.Moments.{fair_restored}
use Rattle.runs.proofs.Untrue.{happens_length, untrue_explained}
use Rattle.runs.proofs.Struck.{unread_spoils}

leads_more : (s : Setting) (x : Cells) (h : History) (y : Cells) (m : Moment) → Leads s x h y → m.before ≡ y → Happens s m.before m.request m.answer m.after
    → Leads s x (h ++ m ∷ []) m.after
leads_more s x [] y m r e k = (e ∙ sym r, k, refl)
leads_more s x (n ∷ h) y m r e k = (r.0, r.1, leads_more s n.after h y m r.2 e k)

pub ran_none : (s : Setting) (x : Cells) → Ran s x [] [] x
ran_none s x = record { history = []; leads = refl; called = refl; told = refl }

ran_more : (s : Setting) (x : Cells) (zs : List Request) (said : List Answer) (y : Cells) (z : Request) (a : Answer) (u : Cells) → Ran s x zs said y → Happens s y z a u
    → Ran s x (zs ++ z ∷ []) (said ++ a ∷ []) u
ran_more s x zs said y z a u r k =
    let m : Moment = record { before = y; request = z; answer = a; after = u } in
    record {
      history = r.history ++ m ∷ [];
      leads = leads_more s x r.history y m r.leads refl k;
      called = map-append _ r.history (m ∷ []) ∙ ap (λ (l : List Request). l ++ z ∷ []) r.called;
      told = map-append _ r.history (m ∷ []) ∙ ap (λ (l : List Answer). l ++ a ∷ []) r.told;
    }

asked_more : (xs : List Call) (i : ℕ) (d : Call) → i < length xs → map request (take i xs) ++ request (get_or xs i d) ∷ [] ≡ map request (take (i + 1) xs)
asked_more xs i d h = sym (ap (map request) (take_more xs i d h) ∙ map-append request (take i xs) (get_or xs i d ∷ []))

-- no call changes the setting
setting_kept : (F : Algebra) (shape later : Shape) (before after : Meaning) (z : Request) (a : Answer) → Acts F shape before z a after → later ≡ shape
    → setting_of F later after ≡ setting_of F shape before
setting_kept F shape later before after z a k e =
    ap (λ (h : Shape). setting_of F h after) e
    ∙ ap₂ (λ c b. record { field = F; q = shape.q; m = shape.m; d = shape.d; count = c; alphabet = b })
    (happens_length (setting_of F shape before) before.entries z a after.entries k.0 refl) k.1

pub ran_next : (F : Algebra) (first shape later : Shape) (start before after : Meaning) (xs : List Call) (i : ℕ) (d : Call) (said : List Answer) (a : Answer) (told : List Answer)
    → Ran (setting_of F first start) start.entries (map request (take i xs)) said before.entries → setting_of F shape before ≡ setting_of F first start → i < length xs
    → Acts F shape before (request (get_or xs i d)) a after → later ≡ shape → told ≡ said ++ a ∷ []
    → Ran (setting_of F first start) start.entries (map request (take (i + 1) xs)) told after.entries × (setting_of F later after ≡ setting_of F first start)
ran_next F first shape later start before after xs i d said a told r e h k t n =
    let s = setting_of F first start in
    let x = start.entries in
    let one : Happens s before.entries (request (get_or xs i d)) a after.entries =
    subst (λ (q : Setting). Happens q before.entries (request (get_or xs i d)) a after.entries) e k.0 in (
      subst (λ (l : List Answer). Ran s x (map request (take (i + 1) xs)) l after.entries) (sym n)
          (subst (λ (l : List Request). Ran s x l (said ++ a ∷ []) after.entries) (asked_more xs i d h) (ran_more s x _ said before.entries (request (get_or xs i d)) a after.entries r one)),
      setting_kept F shape later before after (request (get_or xs i d)) a k t ∙ e,
    )

pub ran_all : (s : Setting) (x : Cells) (xs : List Call) (i : ℕ) (said : List Answer) (y : Cells) → length xs ≤ i → Ran s x (map request (take i xs)) said y
    → Ran s x (map request xs) said y
ran_all s x xs i said y h r = subst (λ (l : List Call). Ran s x (map request l) said y) (take_all i xs h) r

pub law : (s : Setting) → Lawful s.field → s.m ≤ 3 → (x : Cells) → length x ≡ s.count → (zs : List Request) (said : List Answer) (y : Cells) → Ran s x zs said y → LawfulRun s x zs said y
law s L wide x l zs said y r = record {
  history = r.history;
  leads = r.leads;
  called = r.called;
  told = r.told;
  untrue = untrue_explained s L wide x r.history y l r.leads;
  fair = fair_restored s L wide x r.history y r.leads;
  unread = unread_spoils s L wide x zs said y r;
}
