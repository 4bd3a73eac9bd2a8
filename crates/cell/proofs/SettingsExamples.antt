-- What the three calls that only read settings answer, at the edges of t and c, computed from the definitions by the checker. Assumes nothing.
use Prim.Native.Nat.{ℕ}
use mathlib.Core.Path.{◌≡◌, refl}
use Rattle.laws.specs.Powers.{highest}
use Rattle.refusal.specs.declared.Verdict.{Verdict}
use Rattle.refusal.specs.declared.Verdict.TheVariants.{Accepted, Refused}
use Rattle.cell.specs.declared.MicroParams.{MicroParams}
use Rattle.cell.specs.declared.MicroLayout.{MicroLayout}
use Rattle.cell.specs.declared.ZoomAnswer.{ZoomAnswer}
use Rattle.cell.specs.Cell.{max_zoom}
use Rattle.cell.specs.Crossing.{ceiling_of}
use Rattle.cell.specs.Refusals.{params_call, layout_call, max_zoom_call}

abbrev with_base : ℕ → ℕ → MicroParams
with_base t c = record { t = t; c = c }

-- the pixels, where zoom and shutter stand, the depth, the ceiling
abbrev laid : MicroParams → ℕ → ℕ → ℕ → ℕ → ℕ → MicroLayout
laid p pixels zoom shutter depth ceiling =
    record { params = p; pixels = pixels; zoom_at = zoom; shutter_at = shutter; depth = depth; zoom_in_ceiling = ceiling }

-- a refused layout is all 0
abbrev nothing : MicroParams → MicroLayout
nothing p = laid p 0 0 0 0 0

abbrev highest_zoom : ℕ → ZoomAnswer
highest_zoom z = record { verdict = Accepted; zoom = z }

abbrev no_base : ZoomAnswer
no_base = record { verdict = Refused 2; zoom = 0 }

-- `checked` and `layout` give this verdict, `layout` this layout, `max_zoom` this answer
record Answers (p : MicroParams) (v : Verdict) (l : MicroLayout) (z : ZoomAnswer) : Type 0 where
  checked : params_call p ≡ record { verdict = v; params = p }
  layout : layout_call p ≡ record { verdict = v; layout = l }
  max_zoom_lem : max_zoom_call p.c ≡ z

abbrev Accepts : (p : MicroParams) → MicroLayout → ℕ → Type 0
Accepts p l z = Answers p Accepted l (highest_zoom z)

abbrev Refuses : ℕ → (p : MicroParams) → ZoomAnswer → Type 0
Refuses k p z = Answers p (Refused k) (nothing p) z

pub record Settings : Type 0 where
  t_0 : Refuses 1 (with_base 0 2) (highest_zoom 31)
  t_1 : Accepts (with_base 1 2) (laid (with_base 1 2) 3 3 4 8 127) 31
  t_12 : Accepts (with_base 12 3) (laid (with_base 12 3) 14 14 15 20 85) 20
  t_4096 : Accepts (with_base 4096 2) (laid (with_base 4096 2) 4098 4098 4099 4104 127) 31
  t_4097 : Refuses 1 (with_base 4097 2) (highest_zoom 31)
  t_largest : Refuses 1 (with_base 18446744073709551615 2) (highest_zoom 31)
  c_0 : Refuses 2 (with_base 1 0) no_base
  c_1 : Refuses 2 (with_base 1 1) no_base
  c_256 : Accepts (with_base 1 256) (laid (with_base 1 256) 3 3 4 8 0) 3
  c_257 : Refuses 2 (with_base 1 257) no_base
  c_largest : Refuses 2 (with_base 1 4294967295) no_base
  both_low : Refuses 1 (with_base 0 1) no_base
  both_high : Refuses 1 (with_base 4097 257) no_base

pub settings : Settings
unfolding params_call layout_call max_zoom_call max_zoom highest ceiling_of
settings = record {
  t_0 = record { checked = refl; layout = refl; max_zoom_lem = refl };
  t_1 = record { checked = refl; layout = refl; max_zoom_lem = refl };
  t_12 = record { checked = refl; layout = refl; max_zoom_lem = refl };
  t_4096 = record { checked = refl; layout = refl; max_zoom_lem = refl };
  t_4097 = record { checked = refl; layout = refl; max_zoom_lem = refl };
  t_largest = record { checked = refl; layout = refl; max_zoom_lem = refl };
  c_0 = record { checked = refl; layout = refl; max_zoom_lem = refl };
  c_1 = record { checked = refl; layout = refl; max_zoom_lem = refl };
  c_256 = record { checked = refl; layout = refl; max_zoom_lem = refl };
  c_257 = record { checked = refl; layout = refl; max_zoom_lem = refl };
  c_largest = record { checked = refl; layout = refl; max_zoom_lem = refl };
  both_low = record { checked = refl; layout = refl; max_zoom_lem = refl };
  both_high = record { checked = refl; layout = refl; max_zoom_lem = refl };
}
