-- The pieces of 512 bytes that `chunks_exact` gives, each beside its place: they pass one by one where the blocks do.
use Prim.Native.Nat.{ℕ, zero, suc, ◌/◌}
use mathlib.Core.Path.{◌≡◌, refl, ap, ◌∙◌}
use mathlib.Core.Bool.{◌&&◌}
use mathlib.Core.List.{List, [], ◌∷◌, ◌++◌}
use lib.ListN.{length, take, drop, length-append}
use lib.Seq.{take_at, drop_at}
use native.Mathlib.Omega.{arith}
use native.Mathlib.Numerals.{add-one}
use Rattle.std.specs.List.{list_all, enumerate_from}
use Rattle.std.specs.Slice.Iter.{chunks_exact_rest, chunks_exact_size, chunks_exact_steps}
use Rattle.std.proofs.lemmas.Iterator.{YieldsList}
use Rattle.std.proofs.lemmas.Iterator.Splits.{YieldsList-from_shown_while}
use Rattle.store_blocks.specs.Blocks.{block_passes, blocks_pass}
use Rattle.store_blocks.proofs.ChainLaws.{pass_suc, pass_zero}

abbrev pub pieces : ℕ → List ℕ → List (List ℕ)
pieces zero l = []
pieces (suc count) l = take 512 l ∷ pieces count (drop 512 l)

abbrev pub all_pieces : List ℕ → List (List ℕ)
all_pieces l = pieces (length l / 512) l

first_piece : (x l : List ℕ) → length x ≡ 512 → all_pieces (x ++ l) ≡ x ∷ all_pieces l
first_piece x l e =
    let one : length (x ++ l) / 512 ≡ suc (length l / 512) = omega (arith, length-append x l, e) in
    ap (λ (n : ℕ). pieces n (x ++ l)) one ∙ rw (take_at x l 512 e, drop_at x l 512 e) refl

pub chunked : {s : _} (l : List ℕ) → chunks_exact_rest s ≡ l → chunks_exact_size s ≡ 512 → YieldsList chunks_exact_steps (λ x. x.now) s (all_pieces l)
chunked {s = s} l rest size =
    rw (← rest)
    (YieldsList-from_shown_while chunks_exact_steps (λ x. x.now) (λ s. all_pieces (chunks_exact_rest s)) (λ s. chunks_exact_size s ≡ 512)
    (λ s t n g. let none : length (chunks_exact_rest s) / 512 ≡ 0 = omega (arith, n, g) in rw none refl)
    (λ s x t n g. (g.0 ∙ n, ap all_pieces g.1.0 ∙ first_piece x.now (chunks_exact_rest t) (g.1.1 ∙ n))) s size)

pub each_passes : (number count : ℕ) (l : List ℕ)
    → list_all (λ (p : ℕ × List ℕ). block_passes p.0 p.1) (enumerate_from number (pieces count l)) ≡ blocks_pass number count l
each_passes number zero l = rw pass_zero refl
each_passes number (suc count) l = rw (pass_suc, add-one) (ap (λ b. block_passes number (take 512 l) && b) (each_passes (suc number) count (drop 512 l)))
