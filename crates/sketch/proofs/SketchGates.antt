-- The causes of a sketch's calls, each a gate: what comes after it decides where it accepts. Assumes nothing.
use Prim.Native.Nat.{ℕ, ◌^◌}
use mathlib.Core.Path.{◌≡◌, refl}
use mathlib.Core.Bool.{Bool, true, false, not, cond}
use mathlib.Core.List.{List, [], ◌∷◌}
use lib.Dec.{eqb}
use lib.ListN.{length}
use Rattle.refusal.specs.declared.Verdict.{Verdict}
use Rattle.refusal.specs.declared.Verdict.TheVariants.{Accepted, Unsound}
use Rattle.refusal.specs.Refusals.{refuse, outside, when_accepted}
use Rattle.refusal.proofs.VerdictLaws.{refuse_then}
use Rattle.refusal.proofs.GateLaws.{Gate, gate_chain}
use Rattle.rounding.specs.Refusals.{refuse_state}
use Rattle.clock.specs.Clock.{length_of}
use Rattle.cell.specs.Cell.{sound_of}
use Rattle.sketch.specs.declared.MicroCm.{MicroCm}
use Rattle.sketch.specs.Sketch.{cell_of, grid_bytes}
use Rattle.sketch.specs.Audit.{first_unsound}
use Rattle.sketch.specs.Refusals.{grid_fits, refuse_settings, refuse_grid, refuse_sketch, refuse_unsound}

-- 1 to 4
abbrev pub settings_of : MicroCm → Verdict → Verdict
settings_of k rest = refuse_settings k.rows k.cols k.params k.clock rest

pub settings_gate : (k : MicroCm) → Gate (settings_of k)
settings_gate k =
    let t = outside 1 4096 k.params.t in
    let c = outside 2 256 k.params.c in
    let l = outside 1 (2 ^ 53) (length_of k.clock) in
    let g = not (grid_fits k.rows k.cols) in
    gate_chain (refuse 1 t) (λ rest. refuse 2 c (refuse 3 l (refuse 4 g rest))) (refuse_then 1 t)
    (gate_chain (refuse 2 c) (λ rest. refuse 3 l (refuse 4 g rest)) (refuse_then 2 c)
    (gate_chain (refuse 3 l) (refuse 4 g) (refuse_then 3 l) (refuse_then 4 g)))

-- 1 to 5
abbrev pub judged : MicroCm → Verdict → Verdict
judged k rest = settings_of k (refuse_state k.rounding.state rest)

pub judged_gate : (k : MicroCm) → Gate (judged k)
judged_gate k = gate_chain (settings_of k) (refuse_state k.rounding.state) (settings_gate k) (refuse_then 5 (eqb k.rounding.state 0))

-- 1 to 6
pub sketch_gate : (k : MicroCm) (g : List ℕ) → Gate (refuse_sketch k g)
sketch_gate k g = gate_chain (judged k) (refuse_grid k g) (judged_gate k) (refuse_then 6 (not (eqb (length g) (grid_bytes k))))

-- 14
pub unsound_gate : (k : MicroCm) (g cells : List ℕ) → Gate (refuse_unsound k g cells)
unfolding first_unsound
unsound_gate k g [] rest = refl
unsound_gate k g (j ∷ js) rest = by (sound_of k.params.t k.params.c (cell_of k g j)) (refuse_unsound k g js rest)
    (refuse_unsound k g js Accepted) (unsound_gate k g js rest)
  where
    by : (x : Bool) (v w : Verdict) → v ≡ when_accepted w rest w → cond x v (Unsound j) ≡ when_accepted (cond x w (Unsound j)) rest (cond x w (Unsound j))
    by true v w e = e
    by false v w e = refl
