use Rattle.window.proofs.WindowView.{window_told}
use Rattle.window.proofs.below_window_is_told.Goals as goal

pub returns : goal.returns
returns g c = window_told
