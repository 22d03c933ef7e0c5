use Rattle.std.proofs.Common.{◌+◌, ◌<◌, arith}
use Rattle.cells.specs.Stores.{count_of}
use Rattle.window.specs.Windows.{window_meaning, window_hidden}
use Rattle.layer.proofs.Views.{passes_at}
use Rattle.window.proofs.WindowView.{window_shows}
use Rattle.window.proofs.SpanPlacing.place.Goals as goal

pub returns-then-i-shown : goal.returns-then-i-shown
returns-then-i-shown c = λ m e.
    let w = c.args.self.now in
    let i = c.args.i in
    let h : i < count_of (window_meaning m w.start w.len) = omega (arith, c.shown.ensures.count m e) in
    passes_at (λ x. window_meaning x w.start w.len) (λ x. window_hidden x w.start w.len) m i (w.start + i) h (window_shows m w.start w.len i h)
