-- An answer as text.
use Rattle.std.specs.Prelude.{ℕ, List, ◌++◌, codes, decimal}
use Rattle.readings.specs.declared.kinds.AnsweredLine.{AnsweredLine}

abbrev pub answer_text : AnsweredLine → List ℕ
answer_text a = decimal a.symbol ++ (codes ", wrong bits " ++ (decimal a.wrong ++ (codes ", missing bits " ++ decimal a.missing)))
