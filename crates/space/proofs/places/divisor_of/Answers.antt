use Rattle.std.proofs.Common.{ap, ◌∙◌}
use Rattle.std.specs.Prelude.{unwrap_or}
use Rattle.space.proofs.Fours.{divisor_found}
use Rattle.space.proofs.places.divisor_of.Goals as goal

pub returns : goal.returns
returns c = c.unwrap_or.ensures ∙ ap (λ o. unwrap_or o 0) c.first_other.ensures ∙ divisor_found c.args.p
