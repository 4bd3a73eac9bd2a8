-- A verdict is a cascade of causes: each test that the code passes takes one off, and the first that holds is the verdict. Assumes nothing.
use Prim.Native.Nat.{ℕ, ◌≤◌, ◌<◌}
use mathlib.Core.Path.{◌≡◌, refl, sym, ◌∙◌}
use mathlib.Core.Bool.{Bool, true, false, not, ◌||◌}
use mathlib.Core.List.{List}
use lib.Dec.{ltb, eqb}
use lib.ListN.{length}
use borrow.Author.Tests.{lt-ltb, eq-eqb, ne_eqb, eqb-true, not-false}
use Rattle.refusal.specs.declared.Verdict.{Verdict}
use Rattle.refusal.specs.declared.Verdict.TheVariants.{Accepted, Refused}
use Rattle.refusal.specs.Refusals.{is_accepted, refuse, outside}
use Rattle.refusal.proofs.VerdictLaws.{turned_back_lem, let_pass, refuse_then, not_refused, inside_range, range_inside}
use Rattle.refusal.proofs.GateLaws.{Gate, gate_chain, gate_open, gate_shut}
use Rattle.cell.specs.declared.MicroParams.{MicroParams}
use Rattle.cell.specs.Cell.{pixels_of, depth_of}
use Rattle.cell.specs.Refusals.{refuse_params, params_verdict, cross_verdict, merge_verdict}
use Rattle.cell.specs.Workers.{Fit, before_cell}

-- A RANGE
module _ (k low high x : ℕ) (rest : Verdict) where
  pub range_low : x < low → Refused k ≡ refuse k (outside low high x) rest
  range_low h = simp (lt-ltb _ _ h)

  pub range_high : high < x → Refused k ≡ refuse k (outside low high x) rest
  range_high h = go (ltb x low)
    where
      go : (l : Bool) → Refused k ≡ refuse k (l || ltb high x) rest
      go true = refl
      go false = simp (lt-ltb _ _ h)

  pub range_passed : (v : Verdict) → low ≤ x → x ≤ high → v ≡ rest → v ≡ refuse k (outside low high x) rest
  range_passed v l h e = rw (range_inside low high x l h) e

-- 1, 2, and then the rest
params_gate : (p : MicroParams) → Gate (refuse_params p)
params_gate p =
    let t = outside 1 4096 p.t in
    let c = outside 2 256 p.c in
    gate_chain (refuse 1 t) (refuse 2 c) (refuse_then 1 t) (refuse_then 2 c)

-- where the settings were judged
module _ (p : MicroParams) (v : Verdict) (judged : v ≡ params_verdict p) where
  module _ (ok : Bool) (asked : ok ≡ is_accepted v) where
    settled_out : not ok ≡ true → (rest : Verdict) → v ≡ refuse_params p rest
    settled_out h rest = sym (gate_shut (refuse_params p) (params_gate p) rest v judged (turned_back_lem v ok asked h))

    module _ (h : not ok ≡ false) where
      settled_on : (rest : Verdict) → refuse_params p rest ≡ rest
      settled_on rest = gate_open (refuse_params p) (params_gate p) rest (sym judged ∙ let_pass v ok asked h)

      not_one : (outside 1 4096 p.t ≡ false) × (refuse 2 (outside 2 256 p.c) Accepted ≡ Accepted)
      not_one = not_refused 1 (outside 1 4096 p.t) _ (sym judged ∙ let_pass v ok asked h)

      pub settled_t : (1 ≤ p.t) × (p.t ≤ 4096)
      settled_t = inside_range 1 4096 p.t not_one.0

      pub settled_c : (2 ≤ p.c) × (p.c ≤ 256)
      settled_c = inside_range 2 256 p.c (not_refused 2 (outside 2 256 p.c) Accepted not_one.1).0

    -- BEFORE A CELL
    module _ (σ size : ℕ) where
      pub before_settings : not ok ≡ true → v ≡ before_cell p σ size Accepted
      before_settings h = settled_out h _

      module _ (h : not ok ≡ false) where
        pub before_depth : p.t ≤ 4096
        before_depth = (settled_t h).1

        pub before_state : σ ≡ 0 → Refused 5 ≡ before_cell p σ size Accepted
        before_state e = sym (settled_on h _ ∙ simp (eq-eqb _ _ e))

        module _ (n : σ ≡ 0 → ⊥) (d : ℕ) (e : d ≡ depth_of p.t) where
          pub before_size : (size ≡ d → ⊥) → Refused 6 ≡ before_cell p σ size Accepted
          before_size m =
              let m' : size ≡ depth_of p.t → ⊥ = λ q. m (q ∙ sym e) in
              sym (settled_on h _ ∙ simp (ne_eqb _ _ n, ne_eqb _ _ m'))

          pub before_none : size ≡ d → Accepted ≡ before_cell p σ size Accepted
          before_none q = sym (settled_on h _ ∙ simp (ne_eqb _ _ n, eq-eqb _ _ (q ∙ e)))

-- 1, 2, 5, 6, and then the rest
before_gate : (p : MicroParams) (σ size : ℕ) → Gate (before_cell p σ size)
before_gate p σ size =
    let state = eqb σ 0 in
    let depth = not (eqb size (depth_of p.t)) in
    gate_chain (refuse_params p) (λ rest. refuse 5 state (refuse 6 depth rest)) (params_gate p)
    (gate_chain (refuse 5 state) (refuse 6 depth) (refuse_then 5 state) (refuse_then 6 depth))

-- a call that is accepted has settings that are, and a cell of its depth
pub accepted_fit : (p : MicroParams) (σ size : ℕ) (rest : Verdict) → before_cell p σ size rest ≡ Accepted → Fit p.t p.c size
accepted_fit p σ size rest e =
    let one = not_refused 1 (outside 1 4096 p.t) _ e in
    let two = not_refused 2 (outside 2 256 p.c) _ one.1 in
    let five = not_refused 5 (eqb σ 0) _ two.1 in
    let six = not_refused 6 (not (eqb size (depth_of p.t))) rest five.1 in
    let t-in = inside_range 1 4096 p.t one.0 in
    let c-in = inside_range 2 256 p.c two.0 in
    record { t_low = t-in.0; t_high = t-in.1; c_low = c-in.0; c_high = c-in.1; size_is = eqb-true _ _ (not-false _ six.0) }

-- where all was judged that is told before a cell
module _ (p : MicroParams) (σ size : ℕ) (v : Verdict) (judged : v ≡ before_cell p σ size Accepted) (ok : Bool) (asked : ok ≡ is_accepted v) where
  pub opened_out : not ok ≡ true → (rest : Verdict) → v ≡ before_cell p σ size rest
  opened_out h rest = sym (gate_shut (before_cell p σ size) (before_gate p σ size) rest v judged (turned_back_lem v ok asked h))

  module _ (h : not ok ≡ false) where
    pub opened_on : (rest : Verdict) → before_cell p σ size rest ≡ rest
    opened_on rest = gate_open (before_cell p σ size) (before_gate p σ size) rest (sym judged ∙ let_pass v ok asked h)

    pub opened_fit : Fit p.t p.c size
    opened_fit = accepted_fit p σ size Accepted (sym judged ∙ let_pass v ok asked h)

-- THE LOWEST NUMBER, where nothing is told before the cell: whether it is sound comes last
module _ (p : MicroParams) (b : List ℕ) (σ : ℕ) (none : before_cell p σ (length b) Accepted ≡ Accepted) where
  pub nine_told : (n crossed : ℕ) → 0 < crossed → crossed < pixels_of p.t → n < crossed → cross_verdict p n crossed b σ ≡ Refused 9
  nine_told n crossed some near low =
      opened_on p σ (length b) Accepted (sym none) true refl refl _ ∙ simp (lt-ltb _ _ some, lt-ltb _ _ near, lt-ltb _ _ low)

  pub six_told : (src : List ℕ) → (length src ≡ depth_of p.t → ⊥) → merge_verdict p b src σ ≡ Refused 6
  six_told src other = opened_on p σ (length b) Accepted (sym none) true refl refl _ ∙ simp (ne_eqb _ _ other)
