-- The gap fits.
use Rattle.std.proofs.Common.{ℕ, ◌-◌, ◌*◌, ◌^◌, ◌≤◌, arith}
use Rattle.std.proofs.lemmas.Nat.{mul-le}
use Rattle.space.proofs.Ranks.{power_within}

pub gap_within : (q k d : ℕ) → q ≤ 16 → k ≤ 3 → (q ^ k ≤ 4096) × ((q - d) * q ^ k ≤ 2 ^ 16)
gap_within q k d h l =
    let p = power_within q k h l in
    (p, omega (arith, mul-le (q - d) (q ^ k) 16 4096 (omega arith) p))
