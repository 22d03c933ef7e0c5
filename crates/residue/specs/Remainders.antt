-- The remainders modulo q are a field, for each q at which the test of its inverses passes.
use Rattle.std.specs.Prelude.{◌≡◌, ℕ, ◌+◌, ◌-◌, ◌*◌, ◌%◌, ◌<◌, T}
use Rattle.std.proofs.Common.{sym, ap, ◌∙◌, add_comm, add_assoc, mul_comm, mul_assoc, mul-add, mul-one, add-zero, mod-lt, mod-eq_of_lt, arith}
use Rattle.std.proofs.Math.Nat.{mod_self, mod-add-mod, add-mod-mod}
use Rattle.std.proofs.lemmas.Nat.{mul-mod_first, mul-mod_second}
use Rattle.field.specs.Algebra.{Lawful}
use Rattle.field.proofs.Within.{inverts, lawful}
use Rattle.field.proofs.Every.{every}
use Rattle.residue.specs.Residue.{residues}

module _ (q : ℕ) (one : 1 < q) (test : T (every (inverts q (λ a b. (a + b) % q) (λ a b. (a * b) % q) (λ a. (q - a) % q)) (q - 1))) where
  pos : 0 < q
  pos = omega arith

  pub residues_lawful : Lawful (residues q)
  residues_lawful = lawful q (λ a b. (a + b) % q) (λ a b. (a * b) % q) (λ a. (q - a) % q) (record {
    one_in = one;
    plus_in = λ a b _ _. mod-lt (a + b) pos;
    times_in = λ a b _ _. mod-lt (a * b) pos;
    minus_in = λ a _. mod-lt (q - a) pos;
    plus_comm = λ a b _ _. ap (λ x. x % q) (add_comm a b);
    times_comm = λ a b _ _. ap (λ x. x % q) (mul_comm a b);
    plus_assoc = λ a b c _ _ _. mod-add-mod (a + b) q c ∙ ap (λ x. x % q) (add_assoc a b c) ∙ sym (add-mod-mod a (b + c) q);
    times_assoc = λ a b c _ _ _. mul-mod_first (a * b) c q ∙ ap (λ x. x % q) (mul_assoc a b c) ∙ sym (mul-mod_second a (b * c) q);
    times_plus = λ a b c _ _ _. mul-mod_second a (b + c) q ∙ ap (λ x. x % q) (mul-add a b c) ∙ sym (mod-add-mod (a * b) q (a * c)) ∙ sym (add-mod-mod ((a * b) % q) (a * c) q);
    plus_zero = λ a h. ap (λ x. x % q) (add-zero a) ∙ mod-eq_of_lt h;
    times_one = λ a h. ap (λ x. x % q) (mul-one a) ∙ mod-eq_of_lt h;
    plus_minus = λ a h. add-mod-mod a (q - a) q ∙ ap (λ x. x % q) (let e : a + (q - a) ≡ q = omega arith in e) ∙ mod_self q;
  }) test
