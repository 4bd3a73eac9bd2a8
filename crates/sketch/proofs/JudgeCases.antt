-- The ways through the judges of a sketch and of its cells, in the form in which the code comes to them. Assumes nothing.
use Prim.Native.Nat.{ℕ, ◌*◌, ◌^◌, ◌≤◌, ◌<◌}
use mathlib.Core.Path.{◌≡◌, refl, sym, ◌∙◌}
use mathlib.Core.Bool.{Bool, true, false, not}
use mathlib.Core.List.{List}
use native.Mathlib.Omega.{arith}
use lib.ListN.{length}
use borrow.Author.Tests.{eq-eqb, ne_eqb}
use Rattle.refusal.specs.declared.Verdict.{Verdict}
use Rattle.refusal.specs.declared.Verdict.TheVariants.{Accepted, Refused}
use Rattle.refusal.specs.Refusals.{is_accepted, refuse, outside, when_accepted}
use Rattle.refusal.proofs.VerdictLaws.{refused_leaves, turned_back_lem, let_pass}
use Rattle.refusal.proofs.GateLaws.{gate_open, gate_shut}
use Rattle.rounding.specs.Refusals.{refuse_state}
use Rattle.cell.specs.declared.MicroParams.{MicroParams}
use Rattle.cell.specs.Cell.{depth_of}
use Rattle.cell.specs.Refusals.{params_verdict, refuse_params}
use Rattle.clock.specs.declared.SubWindowClock.{SubWindowClock}
use Rattle.clock.specs.Clock.{length_of}
use Rattle.clock.specs.Refusals.{length_verdict, refuse_length}
use Rattle.sketch.specs.declared.MicroCm.{MicroCm}
use Rattle.sketch.specs.Sketch.{grid_bytes}
use Rattle.sketch.specs.Refusals.{grid_fits, refuse_settings, sketch_verdict, numbers_verdict}
use Rattle.sketch.proofs.SketchGates.{settings_of, settings_gate}
use Rattle.sketch.proofs.SettingsLaws.{GoodSettings, good_settings}
use Rattle.sketch.proofs.AddressLaws.{product_le}

-- causes judged together, and then the causes after them
params_then : (p : MicroParams) (rest : Verdict) → refuse_params p rest ≡ when_accepted (params_verdict p) rest (params_verdict p)
params_then p rest = by (outside 1 4096 p.t) (outside 2 256 p.c)
  where
    by : (a b : Bool) → refuse 1 a (refuse 2 b rest) ≡ when_accepted (refuse 1 a (refuse 2 b Accepted)) rest (refuse 1 a (refuse 2 b Accepted))
    by true b = refl
    by false true = refl
    by false false = refl

length_then : (k : SubWindowClock) (rest : Verdict) → refuse_length k rest ≡ when_accepted (length_verdict k) rest (length_verdict k)
length_then k rest = by (outside 1 (2 ^ 53) (length_of k))
  where
    by : (a : Bool) → refuse 3 a rest ≡ when_accepted (refuse 3 a Accepted) rest (refuse 3 a Accepted)
    by true = refl
    by false = refl

-- THE SETTINGS
module _ (rows cols : ℕ) (p : MicroParams) (clock : SubWindowClock) (cells : Verdict) (ep : cells ≡ params_verdict p) (ok : Bool)
    (asked : ok ≡ is_accepted cells) where
  pub params_refused : not ok ≡ true → cells ≡ refuse_settings rows cols p clock Accepted
  params_refused n = sym (params_then p _ ∙ rw (← ep) (refused_leaves cells _ cells (turned_back_lem cells ok asked n)))

  module _ (times : Verdict) (et : times ≡ length_verdict clock) (ok' : Bool) (asked' : ok' ≡ is_accepted times) (a : not ok ≡ false) where
    past_params : (rest : Verdict) → refuse_params p rest ≡ rest
    past_params rest = params_then p rest ∙ rw (← ep, let_pass cells ok asked a) refl

    pub length_refused : not ok' ≡ true → times ≡ refuse_settings rows cols p clock Accepted
    length_refused n = sym (past_params _ ∙ length_then clock _ ∙ rw (← et) (refused_leaves times _ times (turned_back_lem times ok' asked' n)))

    module _ (b : not ok' ≡ false) (fits : Bool) (ef : fits ≡ grid_fits rows cols) where
      past_length : (rest : Verdict) → refuse_length clock rest ≡ rest
      past_length rest = length_then clock rest ∙ rw (← et, let_pass times ok' asked' b) refl

      pub settings_accepted : fits ≡ true → Accepted ≡ refuse_settings rows cols p clock Accepted
      settings_accepted t = sym (past_params _ ∙ past_length _ ∙ rw (← ef, t) refl)

      pub shape_refused : fits ≡ false → Refused 4 ≡ refuse_settings rows cols p clock Accepted
      shape_refused t = sym (past_params _ ∙ past_length _ ∙ rw (← ef, t) refl)

-- A SKETCH'S OWN NUMBERS
module _ (k : MicroCm) (v : Verdict) (ok : Bool) (ev : v ≡ settings_of k Accepted) (asked : ok ≡ is_accepted v) where
  pub numbers_refused : not ok ≡ true → v ≡ numbers_verdict k
  numbers_refused h = sym (gate_shut (settings_of k) (settings_gate k) (refuse_state k.rounding.state Accepted) v ev (turned_back_lem v ok asked h))

  module _ (h : not ok ≡ false) where
    past : numbers_verdict k ≡ refuse_state k.rounding.state Accepted
    past = gate_open (settings_of k) (settings_gate k) (refuse_state k.rounding.state Accepted) (sym ev ∙ let_pass v ok asked h)

    pub numbers_none : k.rounding.state ≡ 0 → Refused 5 ≡ numbers_verdict k
    numbers_none e = sym (past ∙ rw (eq-eqb _ _ e))

    pub numbers_pass : (k.rounding.state ≡ 0 → ⊥) → Accepted ≡ numbers_verdict k
    numbers_pass n = sym (past ∙ rw (ne_eqb _ _ n))

-- A SKETCH with its grid
module _ (k : MicroCm) (g : List ℕ) (judged : Verdict) (ej : judged ≡ refuse_settings k.rows k.cols k.params k.clock Accepted) (ok : Bool)
    (asked : ok ≡ is_accepted judged) where
  pub settings_refused : not ok ≡ true → judged ≡ sketch_verdict k g
  settings_refused n = sym (gate_shut (settings_of k) (settings_gate k) _ judged ej (turned_back_lem judged ok asked n))

  module _ (a : not ok ≡ false) where
    past_settings : (rest : Verdict) → refuse_settings k.rows k.cols k.params k.clock rest ≡ rest
    past_settings rest = gate_open (settings_of k) (settings_gate k) rest (sym ej ∙ let_pass judged ok asked a)

    good : GoodSettings k.rows k.cols k.params k.clock
    good = good_settings k.rows k.cols k.params k.clock (sym ej ∙ let_pass judged ok asked a)

    pub state_refused : k.rounding.state ≡ 0 → Refused 5 ≡ sketch_verdict k g
    state_refused z = sym (past_settings _ ∙ simp (eq-eqb _ _ z))

    module _ (n : k.rounding.state ≡ 0 → ⊥) where
      pub sketch_accepted : (d : ℕ) → d ≡ depth_of k.params.t → length g ≡ k.rows * k.cols * d → Accepted ≡ sketch_verdict k g
      sketch_accepted d ed e =
          let whole : length g ≡ grid_bytes k = e ∙ rw ed refl in
          sym (past_settings _ ∙ simp (ne_eqb _ _ n, eq-eqb _ _ whole))

      pub grid_refused : (d : ℕ) → d ≡ depth_of k.params.t → (length g ≡ k.rows * k.cols * d → ⊥) → Refused 6 ≡ sketch_verdict k g
      grid_refused d ed ne =
          let other : length g ≡ grid_bytes k → ⊥ = λ e. ne (e ∙ rw ed refl) in
          sym (past_settings _ ∙ simp (ne_eqb _ _ n, ne_eqb _ _ other))

    pub shape_fits : k.rows * k.cols < 2 ^ 64
    shape_fits = omega (arith, product_le k.rows k.cols 128 65536 good.grid.rows_high good.grid.cols_high)

    pub size_fits : (d : ℕ) → d ≡ depth_of k.params.t → k.rows * k.cols * d < 2 ^ 64
    size_fits d ed =
        omega (
          arith,
          product_le (k.rows * k.cols) d (2 ^ 23) 4104
              (product_le k.rows k.cols 128 65536 good.grid.rows_high good.grid.cols_high) (omega (arith, good.fit.t_high)),
        )

    pub t_few : k.params.t ≤ 4096
    t_few = good.fit.t_high
