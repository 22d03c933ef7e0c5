-- The numbers of symbols, and how many places there are.
use Rattle.std.specs.Prelude.{ℕ, zero, suc, ◌+◌, ◌^◌, Bool, false, cond, ◌&&◌, ◌||◌, List, [], ◌∷◌, map, Option, Some, None, ◌==◌, nat_le, nat_lt}
use Rattle.std.specs.List.{zip}

-- The columns of the table of counts, by their number of symbols.
abbrev pub columns : List ℕ
columns = 2 ∷ 3 ∷ 4 ∷ 5 ∷ 7 ∷ 8 ∷ 9 ∷ 11 ∷ 13 ∷ 16 ∷ []

abbrev pub member : ℕ → List ℕ → Bool
member x [] = false
member x (y ∷ ys) = x == y || member x ys

-- q has a column
abbrev pub has_column : ℕ → Bool
has_column q = member q columns

-- m is 1 to 3
abbrev pub wide : ℕ → Bool
wide m = nat_le 1 m && nat_le m 3

-- d is 1 to q - 1
abbrev pub steep : ℕ → ℕ → Bool
steep q d = nat_le 1 d && nat_lt d q

-- 1 + q + .. + q^m
abbrev pub cells : ℕ → ℕ → ℕ
cells q zero = 1
cells q (suc m) = cells q m + q ^ suc m

-- The table of counts: a row for each column's q, and in it the counts at m = 1, 2 and 3.
abbrev pub counts : List (List ℕ)
counts = map (λ q. map (cells q) (1 ∷ 2 ∷ 3 ∷ [])) columns

-- The same with each row beside its q.
abbrev pub table : List (ℕ × List ℕ)
table = zip columns counts

-- The row of q, where it has a column.
abbrev pub counts_of : ℕ → Option (List ℕ)
counts_of q = cond (has_column q) (Some (map (cells q) (1 ∷ 2 ∷ 3 ∷ []))) None
