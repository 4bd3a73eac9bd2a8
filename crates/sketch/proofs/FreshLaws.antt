-- The ways through a fresh start: what is judged says that the grid has the sketch's size, so as many zeros are its grid. Assumes nothing.
use Prim.Native.Nat.{ℕ, ◌*◌, ◌^◌, ◌<◌, ◌≤◌}
use mathlib.Core.Path.{◌≡◌, refl, sym, ap, ◌∙◌}
use mathlib.Core.Bool.{Bool, true, false, not}
use mathlib.Core.List.{List}
use native.Mathlib.Omega.{arith}
use lib.Dec.{eqb}
use lib.ListN.{length, replicate}
use borrow.Author.Tests.{eq-eqb, ne_eqb, eqb-true, not-false}
use Rattle.refusal.specs.declared.Verdict.{Verdict}
use Rattle.refusal.specs.declared.Verdict.TheVariants.{Accepted, Refused}
use Rattle.refusal.specs.Refusals.{is_accepted, refuse}
use Rattle.refusal.proofs.VerdictLaws.{refused_leaves, turned_back_lem, let_pass, not_refused}
use Rattle.refusal.proofs.GateLaws.{gate_open, gate_shut, gate_passed}
use Rattle.rounding.specs.declared.Rounding.{Rounding}
use Rattle.rounding.specs.Draws.{seeded}
use Rattle.cell.specs.declared.MicroParams.{MicroParams}
use Rattle.cell.specs.Cell.{depth_of}
use Rattle.clock.specs.declared.SubWindowClock.{SubWindowClock}
use Rattle.clock.specs.Clock.{start_of}
use Rattle.sketch.specs.declared.MicroCm.{MicroCm}
use Rattle.sketch.specs.declared.SketchAnswer.{SketchAnswer}
use Rattle.sketch.specs.Sketch.{fresh_sketch, fresh_grid, grid_bytes}
use Rattle.sketch.specs.Refusals.{refuse_settings, sketch_outcome, no_sketch, world, fresh_call, undrawn}
use Rattle.sketch.proofs.SettingsLaws.{GoodSettings, good_settings}
use Rattle.sketch.proofs.SketchGates.{settings_of, settings_gate}
use Rattle.sketch.proofs.AddressLaws.{product_le}

module _ (rows cols : ℕ) (p : MicroParams) (clock : SubWindowClock) where
  -- a sketch with these settings, as the gate wants one
  abbrev given : MicroCm
  given = record { rows = rows; cols = cols; params = p; clock = clock; rounding = record { state = 0 } }

  -- 6 for a grid of so many bytes
  abbrev refuse_size : ℕ → Verdict
  refuse_size size = refuse 6 (not (eqb size (rows * cols * depth_of p.t))) Accepted

  -- THE VERDICT
  module _ (size : ℕ) (judged : Verdict) (ej : judged ≡ refuse_settings rows cols p clock Accepted) (ok : Bool) (asked : ok ≡ is_accepted judged) where
    pub fresh_settings : not ok ≡ true → judged ≡ refuse_settings rows cols p clock (refuse_size size)
    fresh_settings n = sym (gate_shut (settings_of given) (settings_gate given) (refuse_size size) judged ej (turned_back_lem judged ok asked n))

    module _ (a : not ok ≡ false) where
      good : GoodSettings rows cols p clock
      good = good_settings rows cols p clock (sym ej ∙ let_pass judged ok asked a)

      cells_le : rows * cols ≤ 2 ^ 23
      cells_le = product_le rows cols 128 65536 good.grid.rows_high good.grid.cols_high

      pub fresh_cells : rows * cols < 2 ^ 64
      fresh_cells = omega (arith, cells_le)

      pub fresh_short : p.t ≤ 4096
      fresh_short = good.fit.t_high

      module _ (d : ℕ) (ed : d ≡ depth_of p.t) where
        pub fresh_bytes : rows * cols * d < 2 ^ 64
        fresh_bytes = omega (arith, product_le (rows * cols) d (2 ^ 23) 4104 cells_le (omega (arith, good.fit.t_high)))

        size_left : refuse_settings rows cols p clock (refuse_size size) ≡ refuse_size size
        size_left = gate_open (settings_of given) (settings_gate given) (refuse_size size) (sym ej ∙ let_pass judged ok asked a)

        pub fresh_accepted : size ≡ rows * cols * d → Accepted ≡ refuse_settings rows cols p clock (refuse_size size)
        fresh_accepted e =
            let whole : size ≡ rows * cols * depth_of p.t = e ∙ rw ed in
            sym (size_left ∙ rw (eq-eqb _ _ whole) refl)

        pub fresh_size : (size ≡ rows * cols * d → ⊥) → Refused 6 ≡ refuse_settings rows cols p clock (refuse_size size)
        fresh_size n =
            let other : size ≡ rows * cols * depth_of p.t → ⊥ = λ e. n (e ∙ rw ed) in
            sym (size_left ∙ rw (ne_eqb _ _ other) refl)

  -- THE CALL
  module _ (seed : ℕ) (g : List ℕ) (v : Verdict) (ev : v ≡ refuse_settings rows cols p clock (refuse_size (length g))) (ok : Bool)
      (asked : ok ≡ is_accepted v) where
    abbrev made : MicroCm
    made = fresh_sketch rows cols p clock seed

    pub fresh_refused : (none : MicroCm) → none ≡ no_sketch → (r : SketchAnswer) → r ≡ undrawn v none → not ok ≡ true
        → sketch_outcome r g ≡ fresh_call rows cols p clock seed g
    unfolding fresh_call
    fresh_refused none en r er n = rw (er, en, ← ev, refused_leaves v (world made (fresh_grid made)) (world no_sketch g) (turned_back_lem v ok asked n)) refl

    module _ (a : not ok ≡ false) where
      room : length g ≡ grid_bytes made
      room = eqb-true _ _ (not-false _ (not_refused 6 (not (eqb (length g) (grid_bytes made))) Accepted
          (gate_passed (settings_of given) (settings_gate given) (refuse_size (length g)) (sym ev ∙ let_pass v ok asked a)).1).0)

      pub fresh_made : (g' : List ℕ) (started : SubWindowClock) (rounding : Rounding) → g' ≡ replicate (length g) 0 → started ≡ start_of clock
          → rounding.state ≡ seeded seed
          → (r : SketchAnswer) → r ≡ undrawn v (record { rows = rows; cols = cols; params = p; clock = started; rounding = rounding })
          → sketch_outcome r g' ≡ fresh_call rows cols p clock seed g
      unfolding fresh_call
      fresh_made g' started rounding eg es es' r er =
          let state : ◌≡◌ {A = Rounding} rounding (record { state = seeded seed }) = ap (λ (s : ℕ). record { state = s }) es' in
          rw (er, ← ev, let_pass v ok asked a, eg, room, es, state) refl
