-- What a stride shows, and what stays.
use Rattle.std.proofs.Common.{◌≡◌, ℕ, ◌*◌, ◌%◌, ◌<◌, ◌≤◌, List, ◌++◌, length, get_or, take, drop, set, sym, refl, ap, ◌∙◌, inl, inr, mod-lt, arith}
use Rattle.std.proofs.lemmas.List.{length-set, length-take, get_or-set_same, get_or-set_other, get_or-take, drop-set-lt, ext_get_or, take-append-drop}
use Rattle.std.proofs.lemmas.Bool.{cases_lt, cases_eq}
use Rattle.cells.specs.declared.entries.Entry.{Entry}
use Rattle.cells.specs.declared.entries.Entry.TheVariants.{Missing}
use Rattle.cells.specs.Stores.{Meaning, count_of, entry_at, with_entry}
use Rattle.stride.specs.Divisors.{Apart}
use Rattle.stride.specs.Strides.{MakesStride, StrideHidden, StrideKept, StrideTold, strided, stride_meaning, stride_hidden, unshown}
use Rattle.stride.proofs.Divisors.{multiples_apart, multiple_reached}
use Rattle.stride.specs.Shown.{strided_count, strided_at, shown, none_shown, stride_count, stride_none, stride_has, stride_at}
use Rattle.layer.proofs.Views.{Shows}

strided_set : (m : Meaning) (n s i : ℕ) (e : Entry) → 0 < s → Apart s n → n ≤ count_of m → i < n → strided (with_entry m ((s * i) % n) e) n s ≡ set (strided m n s) i e
strided_set m n s i e z a h l =
    let at = (s * i) % n in
    let m1 = with_entry m at e in
    let c1 = strided_count m1 n s in
    let c2 = strided_count m n s in
    let c3 = length-set (strided m n s) i e in
    ext_get_or Missing (strided m1 n s) (set (strided m n s) i e) (omega arith) (λ k g.
    let kn : k < n = omega arith in
    let il : i < length (strided m n s) = omega arith in
    let an : at < n = mod-lt (s * i) (omega arith) in
    let al : at < count_of m = omega arith in
    strided_at m1 n s k kn ∙ elim (cases_eq k i) [
      | inl q ↦ (ap (λ x. entry_at m1 ((s * x) % n)) q ∙ get_or-set_same m.entries at e Missing al ∙ sym (get_or-set_same (strided m n s) i e Missing il) ∙ ap (λ x. get_or (set (strided m n s) i e) x Missing) (sym q))
      | inr q ↦ (get_or-set_other m.entries at ((s * k) % n) e Missing (λ t. q (multiples_apart s n k i z a kn l t)) ∙ sym (strided_at m n s k kn) ∙ sym (get_or-set_other (strided m n s) i k e Missing q))
    ])

pub stride_shows : (m : Meaning) (n s i : ℕ) → 0 < s → Apart s n → i < count_of (stride_meaning m n s) → Shows (λ x. stride_meaning x n s) (λ x. stride_hidden x n s) m i ((s * i) % n)
stride_shows m n s i z a h =
    let p = stride_has m n s i h in
    let at = (s * i) % n in
    let lt : at < n = mod-lt (s * i) (omega arith) in
    let more : (e : Entry) → n ≤ count_of (with_entry m at e) = λ e. omega (arith, length-set m.entries at e, p.0) in
    let F : List Entry → Meaning = λ es. record { entries = es; alphabet = m.alphabet } in
    let G : List Entry → StrideHidden = λ es. record { n = n; step = s; others = es } in
    record {
      below = omega (arith, p.0);
      alike = refl;
      same = stride_at m n s i h;
      goes = λ e. ap F ((shown (with_entry m at e) n s (more e)).0 ∙ strided_set m n s i e z a p.0 p.1 ∙ ap (λ es. set es i e) (sym (shown m n s p.0).0));
      stays = λ e. ap G ((shown (with_entry m at e) n s (more e)).1 ∙ drop-set-lt n m.entries at e lt ∙ sym (shown m n s p.0).1);
    }

-- the entries that are shown come back from the stride
front_told : (m m' : Meaning) (n s : ℕ) → 0 < s → Apart s n → n ≤ count_of m → n ≤ count_of m' → strided m n s ≡ strided m' n s → take n m.entries ≡ take n m'.entries
front_told m m' n s z a h h' e =
    let l1 = length-take n m.entries in
    let l2 = length-take n m'.entries in
    ext_get_or Missing (take n m.entries) (take n m'.entries) (omega arith) (λ j g.
    let jn : j < n = omega arith in
    let r = multiple_reached s n j z a jn in
    let back : (x : Meaning) → get_or (strided x n s) r.0 Missing ≡ entry_at x j = λ x. strided_at x n s r.0 r.1 ∙ ap (entry_at x) r.2 in
    get_or-take n m.entries j Missing jn ∙ sym (back m) ∙ ap (λ es. get_or es r.0 Missing) e ∙ back m' ∙ sym (get_or-take n m'.entries j Missing jn))

entries_told : (m m' : Meaning) (n s : ℕ) → MakesStride n s → (stride_meaning m n s).entries ≡ (stride_meaning m' n s).entries → unshown m n ≡ unshown m' n → m.entries ≡ m'.entries
entries_told m m' n s (z, sn, most, a) e f = elim (cases_lt (count_of m) n) [
  | inl k ↦ elim (cases_lt (count_of m') n) [
    | inl k' ↦ sym (none_shown m n s k).1 ∙ f ∙ (none_shown m' n s k').1
    | inr k' ↦ absurd (omega (arith, stride_none m n s k, stride_count m' n s k', ap length e))
  ]
  | inr k ↦ elim (cases_lt (count_of m') n) [
    | inl k' ↦ absurd (omega (arith, stride_count m n s k, stride_none m' n s k', ap length e))
    | inr k' ↦ (
        let front = front_told m m' n s z a k k' (sym (shown m n s k).0 ∙ e ∙ (shown m' n s k').0) in
        let end = sym (shown m n s k).1 ∙ f ∙ (shown m' n s k').1 in
        sym (take-append-drop n m.entries) ∙ ap (λ x. x ++ drop n m.entries) front ∙ ap (λ x. take n m'.entries ++ x) end ∙ take-append-drop n m'.entries)
  ]
]

pub stride_told : {K : Type 0} → StrideTold K
stride_told {K} m m' k k' n s ok p q =
    let e = entries_told m m' n s ok (ap (λ (x : Meaning). x.entries) p) (ap (λ (x : StrideKept K). x.hidden.others) q) in
    let F : List Entry → ℕ → Meaning = λ es a. record { entries = es; alphabet = a } in
    (ap (λ es. F es m.alphabet) e ∙ ap (λ (x : Meaning). F m'.entries x.alphabet) p, ap (λ (x : StrideKept K). x.below) q)
