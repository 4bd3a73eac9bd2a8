-- The ways through the verdict of a merge, in the form in which the code comes to them. Assumes nothing.
use Prim.Native.Nat.{ℕ}
use mathlib.Core.Path.{◌≡◌, refl, sym, ◌∙◌}
use mathlib.Core.Bool.{Bool, true, false, not}
use mathlib.Core.List.{List}
use lib.Dec.{eqb}
use lib.ListN.{length}
use Rattle.refusal.specs.declared.Verdict.{Verdict}
use Rattle.refusal.specs.declared.Verdict.TheVariants.{Accepted}
use Rattle.refusal.specs.Refusals.{is_accepted, refuse, when_accepted}
use Rattle.refusal.proofs.VerdictLaws.{turned_back_lem, let_pass, refuse_then}
use Rattle.refusal.proofs.GateLaws.{Gate, gate_chain, gate_open, gate_shut}
use Rattle.clock.specs.Clock.{n_of, same_frame}
use Rattle.sketch.specs.declared.MicroCm.{MicroCm}
use Rattle.sketch.specs.Sketch.{all_cells}
use Rattle.sketch.specs.Refusals.{refuse_unsound, sketch_verdict, lower_of, same_shape, merge_verdict, refuse_pair}
use Rattle.sketch.specs.Workers.{Ready}
use Rattle.sketch.proofs.SketchGates.{unsound_gate}
use Rattle.sketch.proofs.ReadyLaws.{ready_of}
use Rattle.sketch.proofs.MergeAccepted.{lower_both}

-- 10 TO 12
module _ (k k' : MicroCm) where
  pub pair_gate : Gate (refuse_pair k k')
  pair_gate =
      let shape = not (same_shape k k') in
      let frame = not (same_frame k.clock k'.clock) in
      let n = not (eqb (n_of k.clock) (n_of k'.clock)) in
      gate_chain (refuse 10 shape) (λ rest. refuse 11 frame (refuse 12 n rest)) (refuse_then 10 shape)
      (gate_chain (refuse 11 frame) (refuse 12 n) (refuse_then 11 frame) (refuse_then 12 n))

-- WHAT IS KNOWN once neither sketch is refused by itself
module _ (v v' settings : Verdict) (es : settings ≡ lower_of v v') (ok : Bool) (asked : ok ≡ is_accepted settings) (yes : not ok ≡ false) where
  both : (v ≡ Accepted) × (v' ≡ Accepted)
  both = lower_both v v' (sym es ∙ let_pass settings ok asked yes)

  module _ (k : MicroCm) (g : List ℕ) where
    pub ready_first : v ≡ sketch_verdict k g → Ready k (length g)
    ready_first ev = ready_of k g (sym ev ∙ both.0)

    pub ready_second : v' ≡ sketch_verdict k g → Ready k (length g)
    ready_second ev = ready_of k g (sym ev ∙ both.1)

-- ALL CAUSES
module _ (k : MicroCm) (g : List ℕ) (k' : MicroCm) (g' : List ℕ) (v v' settings : Verdict) (ev : v ≡ sketch_verdict k g)
    (ev' : v' ≡ sketch_verdict k' g') (es : settings ≡ lower_of v v') (ok : Bool)
    (asked : ok ≡ is_accepted settings) where
  abbrev told : Verdict → Verdict
  told rest = when_accepted settings rest settings

  is_told : merge_verdict k g k' g' ≡ told (refuse_pair k k' (refuse_unsound k g (all_cells k) (refuse_unsound k' g' (all_cells k') Accepted)))
  is_told = rw (es, ev, ev') refl

  module _ (yes : not ok ≡ false) where
    past_settings : merge_verdict k g k' g' ≡ refuse_pair k k' (refuse_unsound k g (all_cells k) (refuse_unsound k' g' (all_cells k') Accepted))
    past_settings = is_told ∙ rw (let_pass settings ok asked yes) refl

    module _ (p : Verdict) (ep : p ≡ refuse_pair k k' Accepted) (ok' : Bool) (asked' : ok' ≡ is_accepted p) where
      module _ (yes' : not ok' ≡ false) (u : Verdict) (eu : u ≡ refuse_unsound k g (all_cells k) Accepted) (ok'' : Bool) (asked'' : ok'' ≡ is_accepted u) where
        past_pair : merge_verdict k g k' g' ≡ refuse_unsound k g (all_cells k) (refuse_unsound k' g' (all_cells k') Accepted)
        past_pair = past_settings ∙ gate_open (refuse_pair k k') (pair_gate k k') _ (sym ep ∙ let_pass p ok' asked' yes')

        pub received_refused : not ok'' ≡ true → u ≡ merge_verdict k g k' g'
        received_refused h = sym (past_pair ∙ gate_shut (refuse_unsound k g (all_cells k)) (unsound_gate k g (all_cells k)) _ u eu (turned_back_lem u ok'' asked'' h))

        pub other_told : not ok'' ≡ false → (w : Verdict) → w ≡ refuse_unsound k' g' (all_cells k') Accepted → w ≡ merge_verdict k g k' g'
        other_told h w ew =
            ew ∙ sym (past_pair ∙ gate_open (refuse_unsound k g (all_cells k)) (unsound_gate k g (all_cells k)) _ (sym eu ∙ let_pass u ok'' asked'' h))
