-- Marks as bits.
use Rattle.std.proofs.Common.{◌≡◌, ℕ, ◌+◌, ◌*◌, ◌^◌, ◌<◌, ◌≤◌, Bool, true, false, cond, List, [], ◌∷◌, ◌++◌, map, length, get_or, take, sym, ap, ◌∙◌, mul_assoc, mul_comm, pow-suc, arith}
use native.Mathlib.Nat.{pow-zero}
use Rattle.std.proofs.lemmas.List.{take_more, map-append, length-map, length-take-le}
use Rattle.readings.specs.declared.kinds.Reading.{Reading}
use Rattle.readings.specs.Counts.{bits}

one_or_none : (b : Bool) → cond b 1 0 ≤ 1
one_or_none true = omega arith
one_or_none false = omega arith

pub bits_below : (bs : List Bool) → bits bs < 2 ^ length bs
bits_below [] = rw (pow-zero 2) (omega arith)
bits_below (b ∷ bs) = rw (pow-suc 2 (length bs)) (omega (arith, bits_below bs, one_or_none b))

bits_push : (bs : List Bool) (b : Bool) → bits (bs ++ (b ∷ [])) ≡ bits bs + cond b 1 0 * 2 ^ length bs
bits_push [] b = rw (pow-zero 2) (omega arith)
bits_push (a ∷ bs) b =
    let x : ℕ = cond b 1 0 in
    let e : x * (2 ^ length bs * 2) ≡ 2 * (x * 2 ^ length bs) = sym (mul_assoc x (2 ^ length bs) 2) ∙ mul_comm (x * 2 ^ length bs) 2 in
    rw (bits_push bs b, pow-suc 2 (length bs), e) (omega arith)

-- one mark more
pub bits_more : (f : Reading → Bool) (rs : List Reading) (i : ℕ) (r : Reading) → i < length rs
    → bits (map f (take (i + 1) rs)) ≡ bits (map f (take i rs)) + cond (f (get_or rs i r)) 1 0 * 2 ^ i
bits_more f rs i r h =
    let l : length (map f (take i rs)) ≡ i = length-map (take i rs) f ∙ length-take-le i rs (omega arith) in
    ap (λ w. bits (map f w)) (take_more rs i r h) ∙ ap bits (map-append f (take i rs) (get_or rs i r ∷ [])) ∙ bits_push (map f (take i rs)) (f (get_or rs i r))
    ∙ ap (λ n. bits (map f (take i rs)) + cond (f (get_or rs i r)) 1 0 * 2 ^ n) l

pub bits_so_far : (f : Reading → Bool) (rs : List Reading) (i : ℕ) → i ≤ length rs → bits (map f (take i rs)) < 2 ^ i
bits_so_far f rs i h =
    let l : length (map f (take i rs)) ≡ i = length-map (take i rs) f ∙ length-take-le i rs h in
    rw l at (bits_below (map f (take i rs)))
