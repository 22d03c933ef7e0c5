-- The law over runs.
use Rattle.std.specs.Prelude.{◌≡◌, ℕ, ◌<◌, Bool, ◌⊎◌, List, length, Ok, ◌≢◌}
use Rattle.std.specs.List.{AllByRecursion}
use Rattle.cells.specs.declared.entries.Entry.TheVariants.{Symbol}
use Rattle.line.specs.Fair.{restored}
use Rattle.plate.specs.declared.calls.Reply.TheVariants.{Corrected}
use Rattle.plate.specs.Settings.{Setting}
use Rattle.plate.specs.Requests.{Request, Answer, Cells, entry, Sound}
use Rattle.plate.specs.Requests.Request.{Correct, Mend}
use Rattle.runs.specs.Histories.{Moment, History, Leads, Ran, requests, answers, At, LastBurn, true_symbol, LastPut, FairLine, Mars, IsSpoil, No, UnreadSpoil, without, only}

-- Untrue cells are explained. After the history, which left the cells y, a cell without its true symbol had an accepted spoil or mend since the
-- last accepted burn, and the last of these was a spoil, or a mend whose line was not fair.
abbrev pub UntrueExplained : Setting → History → Cells → Type 0
UntrueExplained s h y =
    (form : List ℕ) (j : ℕ) → LastBurn h (length h) form j
    → (p : ℕ) → p < s.count → (entry y p ≢ Symbol (true_symbol s form p))
    → (m : Moment) × LastPut h j p m × Mars s form m.before m.request

-- Fair lines are restored. Each correct or mend after the first accepted burn, with sound arguments, on a line that was fair just before it,
-- was accepted, gave the true symbol, and marked exactly the untrue readings as wrong and the missing ones as missing.
abbrev pub FairRestored : Setting → History → Type 0
FairRestored s h =
    (i : ℕ) (m : Moment) → At h i m → (form : List ℕ) (j : ℕ) → LastBurn h i form j
    → (w v : ℕ) (marks : List ℕ) → (m.request ≡ Correct w v marks) ⊎ (m.request ≡ Mend w v marks)
    → Sound s m.request → FairLine s form m.before w v marks
    → m.answer ≡ Ok (Corrected (restored s.field s.m s.d form m.before w v marks))

-- Unread spoils do not matter. With any spoils of cells that the list never reads struck out, in a run from the same cells on a plate of the
-- same setting, every other call answers the same, and every cell with no struck spoil ends the same.
abbrev pub UnreadSpoils : Setting → Cells → List Request → List Answer → Cells → Type 0
UnreadSpoils s x zs said y =
    (struck : List Bool) → AllByRecursion (UnreadSpoil s zs) (only struck zs)
    → (told : List Answer) (u : Cells) → Ran s x (without struck zs) told u
    → (told ≡ without struck said) × ((p : ℕ) → No (IsSpoil p) (only struck zs) → entry u p ≡ entry y p)

-- From the cells x the calls zs had the answers said and left the cells y: each did what its definition says, and the law holds of them.
pub record LawfulRun (s : Setting) (x : Cells) (zs : List Request) (said : List Answer) (y : Cells) : Type 0 where
  pub history : History
  pub leads : Leads s x history y
  pub called : requests history ≡ zs
  pub told : answers history ≡ said
  pub untrue : UntrueExplained s history y
  pub fair : FairRestored s history
  pub unread : UnreadSpoils s x zs said y
