use Rattle.stride.proofs.StrideView.{stride_told}
use Rattle.stride.proofs.below_stride_is_told.Goals as goal

pub returns : goal.returns
returns g c = stride_told
