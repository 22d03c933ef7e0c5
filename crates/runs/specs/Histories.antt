-- What happened in a run of calls, and when.
use Rattle.std.specs.Prelude.{◌≡◌, ℕ, zero, suc, ◌<◌, Bool, true, false, ◌⊎◌, List, [], ◌∷◌, map, Ok, Err}
use Rattle.std.specs.List.{AllByRecursion}
use Rattle.form.specs.Forms.{symbol_at}
use Rattle.line.specs.Asking.{line_place}
use Rattle.line.specs.Fair.{Fair}
use Rattle.plate.specs.Settings.{Setting}
use Rattle.plate.specs.Requests.{Request, Answer, Cells, Sound, Happens}
use Rattle.plate.specs.Requests.Request.{Burn, Spoil, Read, Correct, Mend}

-- One call, with the cells just before it and just after.
pub record Moment : Type 0 where
  pub before : Cells
  pub request : Request
  pub answer : Answer
  pub after : Cells

abbrev pub History : Type 0
History = List Moment

-- From the cells x the history leads to the cells y: each call found what the one before it left, and did what its definition says.
abbrev pub Leads : Setting → Cells → History → Cells → Type 0
Leads s x [] y = x ≡ y
Leads s x (m ∷ h) y = (m.before ≡ x) × Happens s m.before m.request m.answer m.after × Leads s m.after h y

abbrev pub requests : History → List Request
requests h = map (λ m. m.request) h

abbrev pub answers : History → List Answer
answers h = map (λ m. m.answer) h

-- From the cells x these calls had these answers and left the cells y.
pub record Ran (s : Setting) (x : Cells) (zs : List Request) (said : List Answer) (y : Cells) : Type 0 where
  pub history : History
  pub leads : Leads s x history y
  pub called : requests history ≡ zs
  pub told : answers history ≡ said

-- position i of the history, counted from 0, is the moment m
abbrev pub At : History → ℕ → Moment → Type 0
At [] i m = ⊥
At (n ∷ h) zero m = n ≡ m
At (n ∷ h) (suc i) m = At h i m

abbrev pub Accepted : Answer → Type 0
Accepted (Ok r) = Unit {0}
Accepted (Err f) = ⊥

-- an accepted burn of the form
abbrev pub Burns : List ℕ → Moment → Type 0
Burns form m = (m.request ≡ Burn form) × Accepted m.answer

-- Of the burns accepted before position i the last is that of the form, at position j.
pub record LastBurn (h : History) (i : ℕ) (form : List ℕ) (j : ℕ) : Type 0 where
  pub burn : Moment
  pub there : At h j burn
  pub burns : Burns form burn
  pub earlier : j < i
  pub none_later : (k : ℕ) (m : Moment) → j < k → k < i → At h k m → (other : List ℕ) → Burns other m → ⊥

-- The true symbol of the cell p, where the form is that of the last accepted burn.
abbrev pub true_symbol : Setting → List ℕ → ℕ → ℕ
true_symbol s form p = symbol_at s.field s.m s.d form p

-- the call is a spoil or a mend of the cell p
abbrev pub IsPut : ℕ → Request → Type 0
IsPut p (Burn form) = ⊥
IsPut p (Spoil i e) = i ≡ p
IsPut p (Read i) = ⊥
IsPut p (Correct w v marks) = ⊥
IsPut p (Mend w v marks) = w ≡ p

-- an accepted spoil or mend of the cell p
abbrev pub Puts : ℕ → Moment → Type 0
Puts p m = IsPut p m.request × Accepted m.answer

-- Of the accepted spoils and mends of the cell p the last is m, and it came after position j.
pub record LastPut (h : History) (j p : ℕ) (m : Moment) : Type 0 where
  pub position : ℕ
  pub there : At h position m
  pub since : j < position
  pub puts : Puts p m
  pub none_later : (k : ℕ) (n : Moment) → position < k → At h k n → Puts p n → ⊥

-- The line through w in the direction v is fair in the cells x, where the form is that of the last accepted burn.
abbrev pub FairLine : Setting → List ℕ → Cells → ℕ → ℕ → List ℕ → Type 0
FairLine s form x w v marks = Fair s.field s.m s.d form x w v marks

-- a spoil, or a mend whose line was not fair
abbrev pub Mars : Setting → List ℕ → Cells → Request → Type 0
Mars s form x (Burn other) = ⊥
Mars s form x (Spoil p e) = Unit {0}
Mars s form x (Read p) = ⊥
Mars s form x (Correct w v marks) = ⊥
Mars s form x (Mend w v marks) = FairLine s form x w v marks → ⊥

-- What a list reads, and what is struck from it

-- some mark of the line through w in the direction v reads the cell p
abbrev pub MarksRead : Setting → ℕ → ℕ → ℕ → List ℕ → Type 0
MarksRead s p w v [] = ⊥
MarksRead s p w v (t ∷ ts) = (line_place s.field s.m w v t ≡ p) ⊎ MarksRead s p w v ts

-- the call reads the cell p: a read of it, or a correct or mend with sound arguments and a mark there
abbrev pub Reads : Setting → ℕ → Request → Type 0
Reads s p (Burn form) = ⊥
Reads s p (Spoil i e) = ⊥
Reads s p (Read i) = i ≡ p
Reads s p (Correct w v marks) = Sound s (Correct w v marks) × MarksRead s p w v marks
Reads s p (Mend w v marks) = Sound s (Mend w v marks) × MarksRead s p w v marks

abbrev pub IsSpoil : ℕ → Request → Type 0
IsSpoil p (Burn form) = ⊥
IsSpoil p (Spoil i e) = i ≡ p
IsSpoil p (Read i) = ⊥
IsSpoil p (Correct w v marks) = ⊥
IsSpoil p (Mend w v marks) = ⊥

-- none of the list
abbrev pub No : {X : Type 0} → (X → Type 0) → List X → Type 0
No P xs = AllByRecursion (λ x. P x → ⊥) xs

-- a spoil of a cell that no call of the list reads
abbrev pub UnreadSpoil : Setting → List Request → Request → Type 0
UnreadSpoil s zs z = (p : ℕ) × IsSpoil p z × No (Reads s p) zs

-- the list with the positions that are marked true struck out
abbrev pub without : {X : Type 0} → List Bool → List X → List X
without struck [] = []
without [] (x ∷ xs) = x ∷ without [] xs
without (true ∷ struck) (x ∷ xs) = without struck xs
without (false ∷ struck) (x ∷ xs) = x ∷ without struck xs

-- what stands at these positions
abbrev pub only : {X : Type 0} → List Bool → List X → List X
only struck [] = []
only [] (x ∷ xs) = only [] xs
only (true ∷ struck) (x ∷ xs) = x ∷ only struck xs
only (false ∷ struck) (x ∷ xs) = only struck xs
