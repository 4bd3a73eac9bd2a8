-- The loops over the sums of a merge: each says that the definition of all at entry is what stands before i, then the definition of
-- the rest from here. A count of draws on the way is at most that of all, which is bounded. Assumes nothing.
use Prim.Native.Nat.{ℕ, suc, ◌+◌, ◌-◌, ◌*◌, ◌/◌, ◌^◌, ◌≤◌, ◌<◌, min}
use mathlib.Core.Path.{◌≡◌, refl, sym, ap, ◌∙◌}
use mathlib.Core.Bool.{true}
use mathlib.Core.List.{List, [], ◌∷◌, ◌++◌, append_assoc, append-nil}
use lib.ListN.{length, take, drop, get_or, set, length-set, drop_of_length-le}
use lib.Seq.{drop-cons, take-suc-set, drop-set-lt, take_all}
use native.Mathlib.Nat.{add_assoc, zero-add, add-zero, div-le_of_le-mul}
use native.Mathlib.Numerals.{add-one}
use native.Mathlib.Omega.{arith}
use Rattle.laws.specs.Steps.{Step, still, made}
use Rattle.rounding.specs.declared.Divided.{Divided}
use Rattle.rounding.specs.Draws.{rounded_div}
use Rattle.rounding.proofs.DivisionLaws.{value_le}
use Rattle.cell.specs.Insertion.{front, divide_each}
use Rattle.cell.specs.Crossing.{all_at_most}
use Rattle.cell.specs.Merge.{delayed, scale_down, add_pair, add_each, cut_each, cut_off}
use Rattle.cell_merging_sums.specs.Workers.{flat_sums}
use Rattle.cell.proofs.DivideLaws.{divide_draws}
use Rattle.cell.proofs.SumsLaws.{scale_draws, scale_value, add_few, most_one_more}
use Rattle.cell.proofs.SettleLaws.{cut_few}

-- a step behind the numbers l, n draws after them
abbrev behind : List ℕ → ℕ → Step → Step
behind l n s = made (l ++ s.bytes) s.state (n + s.draws) s.lost

-- SCALE DOWN: `left` levels are to come yet
pub record Scaling (levels c v σ x s n left : ℕ) : Type 0 where
  pub done : scale_down c levels v σ ≡ delayed n (scale_down c left x s)

module _ (levels c v σ : ℕ) where
  module _ (x s n left : ℕ) (w : Scaling levels c v σ x s n left) where
    pub scaling_end : left ≤ 0 → record { value = x; state = s; draws = n } ≡ scale_down c levels v σ
    unfolding scale_down
    scaling_end h =
        let e : left ≡ 0 = omega arith in
        sym (w.done ∙ rw e (simp add-zero))

    module _ (more : 0 < left) (b : ℕ) (eb : b ≡ c) (d : Divided) (e : d ≡ rounded_div x b s) where
      scaling_turn : scale_down c levels v σ ≡ delayed n (delayed d.draws (scale_down c (left - 1) d.value d.state))
      unfolding scale_down
      scaling_turn =
          let q : left ≡ suc (left - 1) = omega arith in
          (rw q at w.done) ∙ rw (e, eb) refl

      pub scaling_fits : levels < 2 ^ 8 → n + d.draws < 2 ^ 32
      scaling_fits few = omega (arith, ap (λ (r : Divided). r.draws) scaling_turn, scale_draws c levels v σ)

      pub scaling_on : (left' : ℕ) → left' + 1 ≡ left → Scaling levels c v σ d.value d.state (n + d.draws) left'
      scaling_on left' h =
          let q : left - 1 ≡ left' = omega arith in
          record { done = (rw q at scaling_turn) ∙ simp add_assoc }

-- ADD A PAIR
pub pair_is : (c down down' σ x y v w : ℕ) (a b : Divided) → v ≡ x → w ≡ y → a ≡ scale_down c down v σ → b ≡ scale_down c down' w a.state
    → record { value = a.value + b.value; state = b.state; draws = a.draws + b.draws } ≡ add_pair c down down' x y σ
unfolding add_pair
pair_is c down down' σ x y v w a b ev ew ea eb = rw (← ev, ← ew, ← ea, ← eb) refl

-- whatever the states
module _ (c down down' v w σ τ : ℕ) (a b : Divided) (ea : a ≡ scale_down c down v σ) (eb : b ≡ scale_down c down' w τ) where
  pub pair_low : 2 ≤ c → v < 256 → w < 256 → a.value + b.value ≤ 510
  pair_low base hv hw =
      let p : a.value ≤ 255 = rw ea (scale_value c down v σ base (omega arith)) in
      let q : b.value ≤ 255 = rw eb (scale_value c down' w τ base (omega arith)) in
      omega arith

  pub pair_fits : 2 ≤ c → v < 256 → w < 256 → a.value + b.value < 2 ^ 64
  pair_fits base hv hw = omega (arith, pair_low base hv hw)

  pub pair_few : down < 2 ^ 8 → down' < 2 ^ 8 → a.draws + b.draws < 2 ^ 32
  pair_few hd hd' =
      let p : a.draws ≤ down = rw ea (scale_draws c down v σ) in
      let q : b.draws ≤ down' = rw eb (scale_draws c down' w τ) in
      omega arith

-- ADD EACH
add_cons : (c down down' x : ℕ) (xs : List ℕ) (y : ℕ) (ys : List ℕ) (σ : ℕ)
    → add_each c down down' (x ∷ xs) (y ∷ ys) σ ≡ front (add_pair c down down' x y σ) (add_each c down down' xs ys (add_pair c down down' x y σ).state)
unfolding add_each
add_cons c down down' x xs y ys σ = refl

pub record Adding (c down down' : ℕ) (xs ys : List ℕ) (σ : ℕ) (zs : List ℕ) (s n i : ℕ) : Type 0 where
  pub done : add_each c down down' xs ys σ ≡ behind (take i zs) n (add_each c down down' (drop i xs) (drop i ys) s)
  pub low : all_at_most 510 (take i zs) ≡ true
  pub same : length zs ≡ length xs

module _ (c down down' : ℕ) (xs ys : List ℕ) (σ : ℕ) where
  pub adding_begin : (zs : List ℕ) → length zs ≡ length xs → Adding c down down' xs ys σ zs σ 0 0
  unfolding all_at_most
  adding_begin zs h = record { done = simp zero-add; low = refl; same = h }

  module _ (zs : List ℕ) (s n i : ℕ) (w : Adding c down down' xs ys σ zs s n i) where
    pub adding_end : length xs ≤ i → made zs s n 0 ≡ add_each c down down' xs ys σ
    unfolding add_each
    adding_end h = sym (w.done ∙ rw (drop_of_length-le xs h, take_all i zs (omega (arith, w.same))) (simp (append-nil, add-zero)))

    pub adding_low : length xs ≤ i → all_at_most 510 zs ≡ true
    adding_low h = rw (take_all i zs (omega (arith, w.same))) at w.low

    pub adding_few : down < 2 ^ 8 → down' < 2 ^ 8 → length xs ≤ 4098 → n ≤ 4098 * 510
    adding_few hd hd' few = omega (arith, ap (λ (r : Step). r.draws) w.done, add_few c down down' xs ys σ (omega arith) (omega arith) few)

    module _ (d : Divided) (h : i < length xs) (paired : length ys ≡ length xs) (e : d ≡ add_pair c down down' (get_or xs i 0) (get_or ys i 0) s) where
      adding_turn : add_each c down down' xs ys σ ≡ behind (take i zs) n (front d (add_each c down down' (drop (suc i) xs) (drop (suc i) ys) d.state))
      adding_turn =
          let hy : i < length ys = omega arith in
          w.done ∙ rw (drop-cons xs i 0 h, drop-cons ys i 0 hy, add_cons, ← e) refl

      pub adding_fits : down < 2 ^ 8 → down' < 2 ^ 8 → length xs ≤ 4098 → n + d.draws < 2 ^ 32
      adding_fits hd hd' few =
          omega (arith, ap (λ (r : Step). r.draws) adding_turn, add_few c down down' xs ys σ (omega arith) (omega arith) few)

      pub adding_on : d.value ≤ 510 → Adding c down down' xs ys σ (set zs i d.value) d.state (n + d.draws) (i + 1)
      adding_on small =
          let hz : i < length zs = omega (arith, w.same) in
          record {
            done = adding_turn ∙ simp (add-one, take-suc-set, append_assoc, add_assoc);
            low = rw (add-one i, take-suc-set zs i d.value hz) (most_one_more 510 (take i zs) d.value w.low small);
            same = length-set zs i d.value ∙ w.same;
          }

-- ADD FLAT: with no level to come down, nothing is drawn
pub flat_is : (c : ℕ) (xs ys : List ℕ) (σ : ℕ) → add_each c 0 0 xs ys σ ≡ still (flat_sums xs ys) σ
unfolding add_each add_pair scale_down flat_sums
flat_is c [] ys σ = refl
flat_is c (x ∷ xs) [] σ = refl
flat_is c (x ∷ xs) (y ∷ ys) σ = rw (flat_is c xs ys σ) refl

flat_cons : (x : ℕ) (xs : List ℕ) (y : ℕ) (ys : List ℕ) → flat_sums (x ∷ xs) (y ∷ ys) ≡ (x + y) ∷ flat_sums xs ys
unfolding flat_sums
flat_cons x xs y ys = refl

pub record Flat (xs ys zs : List ℕ) (i : ℕ) : Type 0 where
  pub done : flat_sums xs ys ≡ take i zs ++ flat_sums (drop i xs) (drop i ys)
  pub low : all_at_most 510 (take i zs) ≡ true
  pub same : length zs ≡ length xs

module _ (xs ys : List ℕ) where
  pub flat_begin : (zs : List ℕ) → length zs ≡ length xs → Flat xs ys zs 0
  unfolding all_at_most
  flat_begin zs h = record { done = refl; low = refl; same = h }

  module _ (zs : List ℕ) (i : ℕ) (w : Flat xs ys zs i) where
    pub flat_end : length xs ≤ i → zs ≡ flat_sums xs ys
    unfolding flat_sums
    flat_end h = sym (w.done ∙ rw (drop_of_length-le xs h, take_all i zs (omega (arith, w.same))) (append-nil zs))

    pub flat_low : length xs ≤ i → all_at_most 510 zs ≡ true
    flat_low h = rw (take_all i zs (omega (arith, w.same))) at w.low

    pub flat_on : (v v' : ℕ) → i < length xs → length ys ≡ length xs → v ≡ get_or xs i 0 → v' ≡ get_or ys i 0 → v < 256 → v' < 256
        → Flat xs ys (set zs i (v + v')) (i + 1)
    flat_on v v' h paired e e' small small' =
        let hy : i < length ys = omega arith in
        let hz : i < length zs = omega (arith, w.same) in
        record {
          done = w.done ∙ rw (drop-cons xs i 0 h, drop-cons ys i 0 hy, flat_cons, ← e, ← e') (simp (add-one, take-suc-set, append_assoc));
          low = rw (add-one i, take-suc-set zs i (v + v') hz) (most_one_more 510 (take i zs) (v + v') w.low (omega arith));
          same = length-set zs i (v + v') ∙ w.same;
        }

-- DIVIDE EACH
divide_cons : (c v : ℕ) (vs : List ℕ) (σ : ℕ) → divide_each c (v ∷ vs) σ ≡ front (rounded_div v c σ) (divide_each c vs (rounded_div v c σ).state)
unfolding divide_each
divide_cons c v vs σ = refl

pub record Halving (c : ℕ) (l₀ : List ℕ) (σ : ℕ) (l : List ℕ) (s n i : ℕ) : Type 0 where
  pub done : divide_each c l₀ σ ≡ behind (take i l) n (divide_each c (drop i l) s)
  pub same : length l ≡ length l₀

module _ (c : ℕ) (l₀ : List ℕ) (σ : ℕ) where
  module _ (l : List ℕ) (s n i : ℕ) (w : Halving c l₀ σ l s n i) where
    pub halving_end : length l₀ ≤ i → made l s n 0 ≡ divide_each c l₀ σ
    unfolding divide_each
    halving_end h =
        let q : length l ≤ i = omega (arith, w.same) in
        sym (w.done ∙ rw (drop_of_length-le l q, take_all i l q) (simp (append-nil, add-zero)))

    module _ (d : Divided) (h : i < length l) (e : d ≡ rounded_div (get_or l i 0) c s) where
      halving_turn : divide_each c l₀ σ ≡ behind (take i l) n (front d (divide_each c (drop (suc i) l) d.state))
      halving_turn = w.done ∙ rw (drop-cons l i 0 h, divide_cons, ← e) refl

      pub halving_fits : length l₀ ≤ 4098 → n + d.draws < 2 ^ 32
      halving_fits few = omega (arith, ap (λ (r : Step). r.draws) halving_turn, divide_draws c l₀ σ)

      pub halving_on : Halving c l₀ σ (set l i d.value) d.state (n + d.draws) (i + 1)
      halving_on =
          let q : i < suc i = omega arith in
          record { done = halving_turn ∙ simp (add-one, take-suc-set, drop-set-lt, append_assoc, add_assoc); same = length-set l i d.value ∙ w.same }

-- a quotient of four bytes fits them, one more too
pub quotient_fits : (v c σ : ℕ) (d : Divided) → d ≡ rounded_div v c σ → v < 2 ^ 32 → 2 ≤ c → d.value < 2 ^ 32
quotient_fits v c σ d e h base =
    let q : v / c ≤ 2 ^ 31 = div-le_of_le-mul c (omega arith) in
    rw e (omega (arith, value_le v c σ))

-- CUT EACH
cut_cons : (x : ℕ) (xs : List ℕ) → cut_each (x ∷ xs) ≡ min x 255 ∷ cut_each xs
unfolding cut_each
cut_cons x xs = refl

off_cons : (x : ℕ) (xs : List ℕ) → cut_off (x ∷ xs) ≡ x - 255 + cut_off xs
unfolding cut_off
off_cons x xs = refl

-- up to i they are cut, and n units were cut off
pub record Cutting (l₀ l : List ℕ) (n i : ℕ) : Type 0 where
  pub done : cut_each l₀ ≡ take i l ++ cut_each (drop i l)
  pub off : cut_off l₀ ≡ n + cut_off (drop i l)
  pub same : length l ≡ length l₀

module _ (l₀ : List ℕ) where
  module _ (l : List ℕ) (n i : ℕ) (w : Cutting l₀ l n i) where
    pub cutting_end : length l₀ ≤ i → l ≡ cut_each l₀
    unfolding cut_each
    cutting_end h =
        let q : length l ≤ i = omega (arith, w.same) in
        sym (w.done ∙ rw (drop_of_length-le l q, take_all i l q) (append-nil l))

    pub cutting_off : length l₀ ≤ i → n ≡ cut_off l₀
    unfolding cut_off
    cutting_off h =
        let q : length l ≤ i = omega (arith, w.same) in
        sym (w.off ∙ rw (drop_of_length-le l q) (add-zero n))

    module _ (h : i < length l) (y : ℕ) (ey : y ≡ get_or l i 0 - 255) where
      cutting_turn : cut_off l₀ ≡ n + y + cut_off (drop (suc i) l)
      cutting_turn = w.off ∙ rw (drop-cons l i 0 h, off_cons, ← ey) (simp add_assoc)

      pub cutting_fits : length l₀ ≤ 4098 → all_at_most 511 l₀ ≡ true → n + y < 2 ^ 32
      cutting_fits few low = omega (arith, cutting_turn, cut_few l₀ low)

      pub cutting_on : (x : ℕ) → x ≡ min (get_or l i 0) 255 → Cutting l₀ (set l i x) (n + y) (i + 1)
      cutting_on x e =
          let q : i < suc i = omega arith in
          record {
            done = w.done ∙ rw (drop-cons l i 0 h, cut_cons, ← e) (simp (add-one, take-suc-set, drop-set-lt, append_assoc));
            off = cutting_turn ∙ simp (add-one, drop-set-lt);
            same = length-set l i x ∙ w.same;
          }
