-- A field on any carrier, with no side condition on its laws.
use Rattle.std.proofs.Common.{◌≡◌, ◌≢◌}
use Rattle.field.specs.Algebra.{Ops}

pub record IsField {K : Type 0} (o : Ops K) : Type 0 where
  pub add_comm : (x y : K) → o.plus x y ≡ o.plus y x
  pub add_assoc : (x y z : K) → o.plus (o.plus x y) z ≡ o.plus x (o.plus y z)
  pub add_zero : (x : K) → o.plus x o.zero ≡ x
  pub add_minus : (x : K) → o.plus x (o.minus x) ≡ o.zero
  pub mul_comm : (x y : K) → o.times x y ≡ o.times y x
  pub mul_assoc : (x y z : K) → o.times (o.times x y) z ≡ o.times x (o.times y z)
  pub mul_one : (x : K) → o.times x o.one ≡ x
  pub mul_over : (x : K) → x ≢ o.zero → o.times x (o.over x) ≡ o.one
  pub distrib : (x y z : K) → o.times x (o.plus y z) ≡ o.plus (o.times x y) (o.times x z)
  pub one_not_zero : o.one ≢ o.zero
