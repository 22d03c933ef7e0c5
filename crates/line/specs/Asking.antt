-- Which lines may be asked for, and where they are read.
use Rattle.std.specs.Prelude.{ℕ, suc, cond, ◌&&◌, List, [], ◌∷◌, ◌++◌, map, length, Some, None, Err, Option, Result, ◌==◌, nat_le, nat_lt}
use Rattle.fault.specs.declared.code.FaultCode.{FaultCode}
use Rattle.fault.specs.declared.code.Part.{Part}
use Rattle.field.specs.Algebra.{Algebra, ops}
use Rattle.field.specs.Vectors.{along}
use Rattle.space.specs.Counts.{cells, member}
use Rattle.space.specs.Places.{divisor, normal, place_of, point_of}
use Rattle.readings.specs.Readings.{answer_fault_code}
use Rattle.line.specs.declared.faults.LineFault.{LineFault}
use Rattle.line.specs.declared.faults.LineFault.TheVariants.{OtherField, NoPlace, NoDirection, SamePlace, TooFewMarks, TooManyMarks, NotAMark, RepeatedMark, ZeroPoint, NoAnswer}
use Rattle.line.specs.declared.lines.Target.{Target}

abbrev pub line_fault_code : LineFault → FaultCode
line_fault_code OtherField = record { part = Part.Plate; number = 20; position = 0 }
line_fault_code (NoPlace w) = record { part = Part.Line; number = 30; position = w }
line_fault_code (NoDirection v) = record { part = Part.Line; number = 31; position = v }
line_fault_code (SamePlace v) = record { part = Part.Line; number = 32; position = v }
line_fault_code TooFewMarks = record { part = Part.Line; number = 33; position = 0 }
line_fault_code TooManyMarks = record { part = Part.Line; number = 34; position = 0 }
line_fault_code (NotAMark i) = record { part = Part.Line; number = 35; position = i }
line_fault_code (RepeatedMark i) = record { part = Part.Line; number = 36; position = i }
line_fault_code (ZeroPoint i) = record { part = Part.Line; number = 37; position = i }
line_fault_code (NoAnswer f) = answer_fault_code f

-- The point at which mark t reads the line of w and v: w + t v, and v itself at infinity, mark q.
abbrev pub point_on : Algebra → List ℕ → List ℕ → ℕ → List ℕ
point_on F w v t = cond (t == F.size) v (along (ops F) w v t)

-- the same for places of a shape with the coordinates x0 to xm
abbrev pub line_point : Algebra → ℕ → ℕ → ℕ → ℕ → List ℕ
line_point F m w v t = point_on F (point_of F.size m w) (point_of F.size m v) t

-- The place that mark t reads, and its divisor.
abbrev pub line_place : Algebra → ℕ → ℕ → ℕ → ℕ → ℕ
line_place F m w v t = place_of F.size m (normal F (line_point F m w v t))

abbrev pub line_divisor : Algebra → ℕ → ℕ → ℕ → ℕ → ℕ
line_divisor F m w v t = divisor (line_point F m w v t)

-- both, of the line of the points w and v
abbrev pub target_at : Algebra → ℕ → List ℕ → List ℕ → ℕ → Target
target_at F m w v t = record { mark = t; place = place_of F.size m (normal F (point_on F w v t)); divisor = divisor (point_on F w v t) }

abbrev pub target : Algebra → ℕ → ℕ → ℕ → ℕ → Target
target F m w v t = target_at F m (point_of F.size m w) (point_of F.size m v) t

-- the first refusal of the two
abbrev pub first : Option LineFault → Option LineFault → Option LineFault
first (Some f) g = Some f
first None g = g

-- what is wrong with mark t, the i-th of the list, after the marks before it, on the line of the points w and v
abbrev pub mark_fault : Algebra → List ℕ → List ℕ → List ℕ → ℕ → ℕ → Option LineFault
mark_fault F w v before i t =
    cond (nat_le 1 t && nat_le t F.size)
    (cond (member t before) (Some (RepeatedMark i)) (cond (divisor (point_on F w v t) == 0) (Some (ZeroPoint i)) None))
    (Some (NotAMark i))

abbrev pub marks_fault : Algebra → List ℕ → List ℕ → List ℕ → ℕ → List ℕ → Option LineFault
marks_fault F w v before i [] = None
marks_fault F w v before i (t ∷ ts) = first (mark_fault F w v before i t) (marks_fault F w v (before ++ (t ∷ [])) (suc i) ts)

-- the first refusal that w, v and the marks meet in asking a line of the shape q, m, d over the field
abbrev pub ask_fault : Algebra → ℕ → ℕ → ℕ → ℕ → ℕ → List ℕ → Option LineFault
ask_fault F q m d w v marks =
    cond (q == F.size)
    (cond (nat_lt w (cells q m))
    (cond (nat_lt v (cells q m))
    (cond (v == w) (Some (SamePlace v))
    (cond (nat_lt d (length marks))
    (cond (nat_le (length marks) q) (marks_fault F (point_of q m w) (point_of q m v) [] 0 marks) (Some TooManyMarks))
    (Some TooFewMarks)))
    (Some (NoDirection v)))
    (Some (NoPlace w)))
    (Some OtherField)

abbrev pub unless : {X : Type 0} → Option LineFault → Result X LineFault → Result X LineFault
unless (Some f) r = Err f
unless None r = r

-- the first refusal that the two places w and v meet
abbrev pub ends_fault : Algebra → ℕ → ℕ → ℕ → ℕ → Option LineFault
ends_fault F q m w v =
    cond (q == F.size)
    (cond (nat_lt w (cells q m))
    (cond (nat_lt v (cells q m))
    (cond (v == w) (Some (SamePlace v)) None)
    (Some (NoDirection v)))
    (Some (NoPlace w)))
    (Some OtherField)

-- the list where there is no refusal, else none
abbrev pub when_sound : {X : Type 0} → Option LineFault → List X → List X
when_sound (Some f) xs = []
when_sound None xs = xs

-- where a line is read: at each of its marks, and nowhere where it may not be asked for
abbrev pub asked_targets : Algebra → ℕ → ℕ → ℕ → ℕ → ℕ → List ℕ → List Target
asked_targets F q m d w v marks = when_sound (ask_fault F q m d w v marks) (map (target F m w v) marks)
