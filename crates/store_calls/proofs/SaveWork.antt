-- The ways through the exact length and a save: each way out is what its definition gives there.
use Prim.Native.Nat.{ℕ, ◌+◌, ◌-◌, ◌*◌, ◌/◌, ◌≤◌}
use mathlib.Core.Path.{◌≡◌, refl, sym, ap, ap₂, ◌∙◌}
use mathlib.Core.Bool.{Bool, true, false, not}
use mathlib.Core.List.{List, [], ◌++◌, append-nil}
use lib.ListN.{length, take, drop, length-append, length-drop, drop_of_length-le}
use lib.Seq.{take_all, take_at, drop_at}
use native.Mathlib.Omega.{arith}
use borrow.Author.Tests.{eq-eqb, ne_eqb}
use Rattle.refusal.specs.declared.Verdict.{Verdict}
use Rattle.refusal.specs.declared.Verdict.TheVariants.{Accepted, Refused}
use Rattle.refusal.specs.Refusals.{is_accepted}
use Rattle.refusal.proofs.VerdictLaws.{refused_leaves, turned_back_lem, let_pass}
use Rattle.sketch.specs.declared.MicroCm.{MicroCm}
use Rattle.sketch.specs.Sketch.{all_cells}
use Rattle.sketch.specs.Refusals.{refuse_sketch, refuse_unsound, sketch_verdict, numbers_verdict}
use Rattle.sketch.specs.Workers.{Ready}
use Rattle.store_blocks.specs.Blocks.{block_of, blocks_from}
use Rattle.store_header.specs.Workers.{header_of}
use Rattle.store.specs.Store.{store_length, store_of, store_with}
use Rattle.store.specs.Refusals.{length_call, refuse_length, save_verdict, save_outcome, save_call}
use Rattle.store.specs.Workers.{Sized, grid_blocks}
use Rattle.store_blocks.proofs.BlockLaws.{block_length}
use Rattle.refusal.proofs.GateLaws.{gate_open, gate_shut}
use Rattle.sketch.proofs.ReadyLaws.{ready_of}
use Rattle.sketch.proofs.SketchGates.{sketch_gate, unsound_gate}

-- THE EXACT LENGTH
module _ (k : MicroCm) (v : Verdict) (ok : Bool) (ev : v ≡ numbers_verdict k) (asked : ok ≡ is_accepted v) where
  pub length_refused : not ok ≡ true → record { verdict = v; length = 0 } ≡ length_call k
  unfolding length_call
  length_refused h = rw (← ev) (ap (λ (n : ℕ). record { verdict = v; length = n }) (sym (refused_leaves v (store_length k) 0 (turned_back_lem v ok asked h))))

  module _ (h : not ok ≡ false) where
    pub length_good : numbers_verdict k ≡ Accepted
    length_good = sym ev ∙ let_pass v ok asked h

    pub length_told : (size n : ℕ) → Sized k size → n ≡ 512 * (1 + (size + 503) / 504) → record { verdict = v; length = n } ≡ length_call k
    unfolding length_call
    length_told size n sized en = rw (← ev, let_pass v ok asked h, en, sized.is)

-- SAVE
pub store_written : (k : MicroCm) (g b u v header : List ℕ) → length b ≡ store_length k → header ≡ header_of k → u ≡ block_of 0 header
    → v ≡ blocks_from 1 (length (take (length (u ++ drop 512 b) - 512) (drop 512 (u ++ drop 512 b))) / 512) g
    → take 512 (u ++ drop 512 b) ++ (v ++ drop (length (u ++ drop 512 b) - 512) (drop 512 (u ++ drop 512 b))) ≡ store_of k g
unfolding store_with
store_written k g b u v header long eh eu ev =
    let first : u ≡ block_of 0 (header_of k) = eu ∙ ap (block_of 0) eh in
    let lu : length u ≡ 512 = ap length first ∙ block_length 0 (header_of k) in
    let lr : length (drop 512 b) ≡ 512 * grid_blocks k = length-drop 512 b ∙ rw long (omega arith) in
    let l0 : length (u ++ drop 512 b) ≡ 512 + 512 * grid_blocks k = length-append u (drop 512 b) ∙ rw (lu, lr) in
    let l1 : length (u ++ drop 512 b) - 512 ≡ 512 * grid_blocks k = omega (arith, l0) in
    let behind : drop 512 (u ++ drop 512 b) ≡ drop 512 b = drop_at u (drop 512 b) 512 lu in
    let count : length (take (512 * grid_blocks k) (drop 512 b)) / 512 ≡ grid_blocks k = ap (λ (l : List ℕ). length l / 512)
    (take_all (512 * grid_blocks k) (drop 512 b) (omega arith)) ∙ rw lr (omega arith) in
    let short : length (drop 512 b) ≤ 512 * grid_blocks k = omega (arith, lr) in
    let none : drop (512 * grid_blocks k) (drop 512 b) ≡ [] = drop_of_length-le (drop 512 b) short in
    let rest : v ≡ blocks_from 1 (grid_blocks k) g = ev ∙ rw (l1, behind, count) in
    rw (l1, behind, none, take_at u (drop 512 b) 512 lu) (ap₂ ◌++◌ first (append-nil v ∙ rest))

module _ (k : MicroCm) (g store : List ℕ) where
  unsaved : (v : Verdict) → is_accepted v ≡ false → save_verdict k g store ≡ v → save_outcome v store ≡ save_call k g store
  unfolding save_call
  unsaved v n e = rw e (ap (save_outcome v) (sym (refused_leaves v (store_of k g) store n)))

  module _ (v : Verdict) (ok : Bool) (ev : v ≡ sketch_verdict k g) (asked : ok ≡ is_accepted v) where
    pub save_refused : not ok ≡ true → save_outcome v store ≡ save_call k g store
    save_refused h = unsaved v (turned_back_lem v ok asked h) (gate_shut (refuse_sketch k g) (sketch_gate k g)
        (refuse_unsound k g (all_cells k) (refuse_length k store Accepted)) v ev (turned_back_lem v ok asked h))

    module _ (h : not ok ≡ false) where
      pub save_ready : Ready k (length g)
      save_ready = ready_of k g (sym ev ∙ let_pass v ok asked h)

      past : (rest : Verdict) → refuse_sketch k g rest ≡ rest
      past rest = gate_open (refuse_sketch k g) (sketch_gate k g) rest (sym ev ∙ let_pass v ok asked h)

      module _ (w : Verdict) (sound : Bool) (ew : w ≡ refuse_unsound k g (all_cells k) Accepted) (told : sound ≡ is_accepted w) where
        pub save_unsound : not sound ≡ true → save_outcome w store ≡ save_call k g store
        save_unsound n =
            unsaved w (turned_back_lem w sound told n)
            (past (refuse_unsound k g (all_cells k) (refuse_length k store Accepted))
            ∙ gate_shut (refuse_unsound k g (all_cells k)) (unsound_gate k g (all_cells k)) (refuse_length k store Accepted) w ew (turned_back_lem w sound told n))

        module _ (s : not sound ≡ false) (size n : ℕ) (sized : Sized k size) (en : n ≡ 512 * (1 + (size + 503) / 504)) where
          length_left : save_verdict k g store ≡ refuse_length k store Accepted
          length_left =
              past (refuse_unsound k g (all_cells k) (refuse_length k store Accepted))
              ∙ gate_open (refuse_unsound k g (all_cells k)) (unsound_gate k g (all_cells k)) (refuse_length k store Accepted) (sym ew ∙ let_pass w sound told s)

          exact : n ≡ store_length k
          exact = en ∙ rw sized.is

          pub save_length : (length store ≡ n → ⊥) → save_outcome (Refused 16) store ≡ save_call k g store
          save_length h = unsaved (Refused 16) refl (length_left ∙ rw (ne_eqb (length store) (store_length k) (λ e. h (e ∙ sym exact))))

          module _ (fits : length store ≡ n) where
            pub save_exact : length store ≡ store_length k
            save_exact = fits ∙ exact

            pub save_done : (y : List ℕ) → y ≡ store_of k g → save_outcome Accepted y ≡ save_call k g store
            unfolding save_call
            save_done y ey = rw (length_left, eq-eqb _ _ save_exact, ey)
