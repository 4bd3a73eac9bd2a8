-- The edge to C and Rust: what words of 64 bits stand for, and what each call leaves. A call returns document 01's number, 0 if it was
-- accepted; the rest stands behind pointers. What a call changes, a refused one leaves; what it tells is written either way.
use Rattle.std.specs.Prelude.{ℕ, ◌^◌, cond, List, [], ◌∷◌, eqb, ltb, Float, get_or, set}
use Rattle.refusal.specs.declared.Verdict.{Verdict}
use Rattle.refusal.specs.Refusals.{number_of, index_of, when_accepted}
use Rattle.rounding.specs.declared.DrawAnswer.{DrawAnswer}
use Rattle.rounding.specs.declared.DivisionAnswer.{DivisionAnswer}
use Rattle.cell.specs.declared.MicroParams.{MicroParams}
use Rattle.cell.specs.declared.PixelAnswer.{PixelAnswer}
use Rattle.cell.specs.Refusals.{CellOutcome}
use Rattle.clock.specs.declared.SubWindowClock.{SubWindowClock}
use Rattle.clock.specs.declared.SubWindowClock.TheVariants.{CountBased, TimeBased}
use Rattle.clock.specs.Clock.{reading_of}
use Rattle.sketch.specs.declared.MicroCm.{MicroCm}
use Rattle.sketch.specs.declared.SketchAnswer.{SketchAnswer}
use Rattle.sketch.specs.declared.ReadingAnswer.{ReadingAnswer}
use Rattle.sketch.specs.declared.AuditAnswer.{AuditAnswer}
use Rattle.sketch.specs.declared.Finding.{Finding}
use Rattle.sketch.specs.declared.Finding.TheVariants.{Sound, Unsound}
use Rattle.sketch.specs.Refusals.{SketchOutcome}
use Rattle.store.specs.Refusals.{SaveOutcome}
use Rattle.store_shape.specs.declared.ShapeAnswer.{ShapeAnswer}
use Rattle.codes.specs.declared.Watch.{Watch}
use Rattle.codes.specs.Refusals.{SetOutcome, AskOutcome}
use Rattle.service.specs.declared.ServiceAnswer.{ServiceAnswer}
use Rattle.service.specs.Service.{ServiceOutcome}

-- THE CLOCK of a kind: 0 counts items, 1 goes by time; any other kind is a clock of length 0, which every call refuses by 3
unfoldable pub clock_of : (kind length epoch reading : ℕ) → SubWindowClock
clock_of kind length epoch reading = cond (eqb kind 0) (CountBased length reading) (cond (eqb kind 1) (TimeBased length epoch reading) (CountBased 0 0))

-- THE SETTINGS: a base that 32 bits do not hold stands for 0, which every call refuses by 2
unfoldable pub base_of : ℕ → ℕ
base_of c = cond (ltb c (2 ^ 32)) c 0

abbrev pub params_of : ℕ → ℕ → MicroParams
params_of t c = record { t = t; c = base_of c }

-- A SKETCH is nine words: rows, cols, t, c, the clock's kind, length, epoch and reading, the random state
unfoldable pub sketch_of : List ℕ → MicroCm
sketch_of w =
    record {
      rows = get_or w 0 0;
      cols = get_or w 1 0;
      params = params_of (get_or w 2 0) (get_or w 3 0);
      clock = clock_of (get_or w 4 0) (get_or w 5 0) (get_or w 6 0) (get_or w 7 0);
      rounding = record { state = get_or w 8 0 };
    }

-- and those of a sketch that begins: a count clock has no epoch, so it is 0
abbrev pub words_by : MicroCm → (kind length epoch reading : ℕ) → List ℕ
words_by k kind length epoch reading =
    k.rows ∷ k.cols ∷ k.params.t ∷ k.params.c ∷ kind ∷ length ∷ epoch ∷ reading ∷ k.rounding.state ∷ []

unfoldable pub words_with : MicroCm → SubWindowClock → List ℕ
words_with k (CountBased length seen) = words_by k 0 length 0 seen
words_with k (TimeBased length epoch now) = words_by k 1 length epoch now

abbrev pub words_of : MicroCm → List ℕ
words_of k = words_with k k.clock

-- WATCHED CODES are three words: how many, the rows of the sketch for which they were set, a bit for each that was reached
unfoldable pub watch_of : List ℕ → Watch
watch_of w = record { count = get_or w 0 0; rows = get_or w 1 0; reached = get_or w 2 0 }

abbrev pub watch_words : Watch → List ℕ
watch_words w = w.count ∷ w.rows ∷ w.reached ∷ []

-- A CALL THAT CHANGES A SKETCH: accepted, it leaves the clock's reading and the random state in their places, and every other word
-- as it was; it tells the index, the draws, and the units that it lost
abbrev pub words_after : List ℕ → SketchAnswer → List ℕ
words_after w a = when_accepted a.verdict (set (set w 7 (reading_of a.sketch.clock)) 8 a.sketch.rounding.state) w

abbrev pub change_of : Verdict → ℕ → ℕ → List ℕ
change_of v draws lost = index_of v ∷ draws ∷ lost ∷ []

pub record Changed : Type 0 where
  pub number : ℕ
  pub sketch : List ℕ
  pub grid : List ℕ
  pub change : List ℕ

abbrev pub changed : ℕ → List ℕ → List ℕ → List ℕ → Changed
changed number sketch grid change = record { number = number; sketch = sketch; grid = grid; change = change }

abbrev pub changed_of : List ℕ → SketchOutcome → Changed
changed_of w o =
    changed
    (number_of o.answer.verdict)
    (words_after w o.answer)
    o.grid
    (change_of o.answer.verdict o.answer.draws o.answer.lost)

-- A FRESH START OR A LOAD: accepted, it leaves the words of the sketch and those of no codes
abbrev pub sketch_after : List ℕ → ServiceAnswer → List ℕ
sketch_after w a = when_accepted a.verdict (words_of a.service.sketch) w

abbrev pub codes_after : List ℕ → ServiceAnswer → List ℕ
codes_after p a = when_accepted a.verdict (watch_words a.service.watch) p

pub record Started : Type 0 where
  pub number : ℕ
  pub sketch : List ℕ
  pub watch : List ℕ
  pub grid : List ℕ

abbrev pub started : ℕ → List ℕ → List ℕ → List ℕ → Started
started number sketch watch grid = record { number = number; sketch = sketch; watch = watch; grid = grid }

abbrev pub started_of : List ℕ → List ℕ → ServiceOutcome → Started
started_of w p o = started (number_of o.answer.verdict) (sketch_after w o.answer) (codes_after p o.answer) o.grid

-- and a load tells the index
pub record Loaded : Type 0 where
  pub start : Started
  pub index : ℕ

abbrev pub loaded : Started → ℕ → Loaded
loaded start index = record { start = start; index = index }

abbrev pub loaded_of : List ℕ → List ℕ → ServiceOutcome → Loaded
loaded_of w p o = loaded (started_of w p o) (index_of o.answer.verdict)

-- A READING: over, under, linear, fraction as f64; the index, over and under as whole numbers
abbrev pub figures_of : ReadingAnswer → List Float
figures_of a = a.reading.over ∷ a.reading.under ∷ a.reading.linear ∷ a.reading.fraction ∷ []

abbrev pub items_of : ReadingAnswer → List ℕ
items_of a = index_of a.verdict ∷ a.over ∷ a.under ∷ []

pub record Read : Type 0 where
  pub number : ℕ
  pub figures : List Float
  pub items : List ℕ

abbrev pub read : ℕ → List Float → List ℕ → Read
read number figures items = record { number = number; figures = figures; items = items }

abbrev pub read_of : ReadingAnswer → Read
read_of a = read (number_of a.verdict) (figures_of a) (items_of a)

-- ONE WHOLE NUMBER beside the verdict; where a cell can be unsound, behind the index
pub record Valued : Type 0 where
  pub number : ℕ
  pub value : ℕ

abbrev pub valued : ℕ → ℕ → Valued
valued number value = record { number = number; value = value }

abbrev pub value_of : Verdict → ℕ → Valued
value_of v value = valued (number_of v) value

pub record Told : Type 0 where
  pub number : ℕ
  pub told : List ℕ

abbrev pub told : ℕ → List ℕ → Told
told number words = record { number = number; told = words }

abbrev pub told_of : Verdict → ℕ → Told
told_of v value = told (number_of v) (index_of v ∷ value ∷ [])

-- THE AUDIT: the index of the first unsound cell and 1, or 0 and 0
unfoldable pub found_of : Finding → List ℕ
found_of Sound = 0 ∷ 0 ∷ []
found_of (Unsound j) = j ∷ 1 ∷ []

abbrev pub audit_of : AuditAnswer → Told
audit_of a = told (number_of a.verdict) (found_of a.audit)

-- THE STORE
pub record Saved : Type 0 where
  pub number : ℕ
  pub store : List ℕ
  pub index : ℕ

abbrev pub saved : ℕ → List ℕ → ℕ → Saved
saved number store index = record { number = number; store = store; index = index }

abbrev pub saved_of : SaveOutcome → Saved
saved_of o = saved (number_of o.verdict) o.store (index_of o.verdict)

-- a store's shape: rows, cols, t, c, the bytes of the grid
abbrev pub shape_words : ShapeAnswer → List ℕ
shape_words a = a.rows ∷ a.cols ∷ a.t ∷ a.c ∷ a.grid_bytes ∷ []

abbrev pub shape_of : ShapeAnswer → Told
shape_of a = told (number_of a.verdict) (shape_words a)

-- CODES SET AND ASKED AFTER
pub record CodesSet : Type 0 where
  pub number : ℕ
  pub watch : List ℕ
  pub columns : List ℕ
  pub limits : List ℕ

abbrev pub codes_set : ℕ → List ℕ → List ℕ → List ℕ → CodesSet
codes_set number watch columns limits = record { number = number; watch = watch; columns = columns; limits = limits }

abbrev pub codes_set_of : List ℕ → SetOutcome → CodesSet
codes_set_of p o =
    codes_set
    (number_of o.answer.verdict)
    (when_accepted o.answer.verdict (watch_words o.answer.watch) p)
    o.columns
    o.limits

pub record CodesAsked : Type 0 where
  pub number : ℕ
  pub watch : List ℕ
  pub list : List ℕ
  pub told : List ℕ

abbrev pub codes_asked : ℕ → List ℕ → List ℕ → List ℕ → CodesAsked
codes_asked number watch list words = record { number = number; watch = watch; list = list; told = words }

abbrev pub codes_asked_of : List ℕ → AskOutcome → CodesAsked
codes_asked_of p o =
    codes_asked
    (number_of o.answer.verdict)
    (when_accepted o.answer.verdict (watch_words o.answer.watch) p)
    o.list
    (index_of o.answer.verdict ∷ o.answer.listed ∷ [])

-- ONE CELL: the random state in its place; it tells what a sketch's call tells
pub record Celled : Type 0 where
  pub number : ℕ
  pub cell : List ℕ
  pub state : ℕ
  pub change : List ℕ

abbrev pub celled : ℕ → List ℕ → ℕ → List ℕ → Celled
celled number cell state change = record { number = number; cell = cell; state = state; change = change }

abbrev pub celled_of : CellOutcome → Celled
celled_of o =
    celled
    (number_of o.answer.verdict)
    o.bytes
    o.answer.rounding.state
    (change_of o.answer.verdict o.answer.draws o.answer.lost)

pub record Pixel : Type 0 where
  pub number : ℕ
  pub items : Float

abbrev pub pixel : ℕ → Float → Pixel
pixel number items = record { number = number; items = items }

abbrev pub pixel_of : PixelAnswer → Pixel
pixel_of a = pixel (number_of a.verdict) a.items

-- THE DRAWS: the random state in its place
pub record Drawn : Type 0 where
  pub number : ℕ
  pub state : ℕ
  pub value : ℕ

abbrev pub drawn : ℕ → ℕ → ℕ → Drawn
drawn number state value = record { number = number; state = state; value = value }

abbrev pub drawn_of : DrawAnswer → Drawn
drawn_of a = drawn (number_of a.verdict) a.rounding.state a.value

pub record Divided : Type 0 where
  pub number : ℕ
  pub state : ℕ
  pub quotient : ℕ
  pub change : List ℕ

abbrev pub divided : ℕ → ℕ → ℕ → List ℕ → Divided
divided number state quotient change = record { number = number; state = state; quotient = quotient; change = change }

-- a division loses nothing
abbrev pub divided_of : DivisionAnswer → Divided
divided_of a = divided (number_of a.verdict) a.rounding.state a.value (change_of a.verdict a.draws 0)
