-- What a merge leaves of dst: its sums are settled, so they are bytes, and the shutters' remainder is below the unit of
-- a zoom that settling only raises. Assumes nothing.
use Prim.Native.Nat.{ℕ, ◌+◌, ◌-◌, ◌*◌, ◌/◌, ◌%◌, ◌^◌, ◌≤◌, ◌<◌, max}
use mathlib.Core.Path.{◌≡◌, refl, sym, ap, ◌∙◌}
use mathlib.Core.Bool.{true}
use mathlib.Core.List.{List}
use lib.ListN.{length, get_or, length-set}
use lib.Seq.{length-take-le}
use native.Mathlib.Omega.{arith}
use native.Mathlib.Nat.{div-add-mod', mod-lt, mul_comm, mul-add, mul-le-mul_left, pow-le-pow_right, one-le-pow, lt_of_lt_of_le, div-lt_iff_lt-mul}
use Rattle.laws.specs.Steps.{Step}
use Rattle.rounding.specs.Draws.{state_after}
use Rattle.cell.specs.Cell.{pixels_of, depth_of, slot_of, pixels_in, zoom_of, shutter_of, with_pixels, with_zoom, with_shutter, max_zoom, sound_of, sum_of, total_of}
use Rattle.cell.specs.Merge.{add_each, Settled, settle_of, with_carry, merge_of, sums_of}
use Rattle.cell.specs.Lost.{raised_from, Balances, MergeLoses}
use Rattle.cell.specs.Workers.{Fit}
use Rattle.cell.proofs.SmallLaws.{bounded_set}
use Rattle.laws.proofs.SmallLaws.{Small, small_take}
use Rattle.cell.proofs.CellLaws.{Kept, kept_same, kept_then, slot_inside, with_zoom_zoom, with_zoom_pixels, with_zoom_kept, with_pixels_pixels, with_pixels_kept}
use Rattle.cell.proofs.CellLaws.{with_shutter_shutter, with_shutter_pixels, with_shutter_zoom, with_shutter_kept}
use Rattle.cell.proofs.PowerLaws.{max_zoom_limit, zoom_fits}
use Rattle.cell.proofs.SoundLaws.{sound_zoom, sound_shutter, sound_is}
use Rattle.cell.proofs.SumsLaws.{after_then, add_draws, add_state, add_length, add_sums, flat_sum, most_at}
use Rattle.cell.proofs.SettleLaws.{cut_lost, Settles, settles, CutFrom, settle_cut, settle_flat}
use Rattle.cell.proofs.TotalLaws.{sum_more}

-- THE TARGET
module _ (t c : ℕ) (b src : List ℕ) (sound : sound_of t c b ≡ true) (sound' : sound_of t c src ≡ true) (base : 2 ≤ c)
    (target : ℕ) (et : target ≡ max (zoom_of t b) (zoom_of t src)) where
  pub target_high : zoom_of t b ≤ target
  target_high = omega arith

  pub target_high' : zoom_of t src ≤ target
  target_high' = omega arith

  pub target_low : target ≤ max_zoom c
  target_low = omega (arith, sound_zoom t c b sound, sound_zoom t c src sound')

  pub target_fits : c ^ target ≤ 2 ^ 32 - 1
  target_fits = zoom_fits c base target target_low

  module _ (unit shutters : ℕ) (eu : unit ≡ c ^ target) (es : shutters ≡ shutter_of t b + shutter_of t src) where
    pub target_positive : 0 < unit
    target_positive = rw eu (one-le-pow target c (omega arith))

    -- two shutters, each below a unit
    pub carry_le : shutters / unit ≤ 1
    carry_le =
        let positive : 0 < c = omega arith in
        let p : c ^ zoom_of t b ≤ c ^ target = pow-le-pow_right positive target_high in
        let q : c ^ zoom_of t src ≤ c ^ target = pow-le-pow_right positive target_high' in
        let h : shutters < 2 * unit = omega (arith, sound_shutter t c b sound, sound_shutter t c src sound') in
        omega (arith, (div-lt_iff_lt-mul target_positive).1 h)

-- a total, of what was read
total_read : (t c : ℕ) (b : List ℕ) (s z : ℕ) (pixels : List ℕ) → shutter_of t b ≡ s → zoom_of t b ≡ z → pixels_in t b ≡ pixels
    → total_of t c b ≡ s + c ^ z * sum_of pixels
unfolding total_of
total_read t c b s z pixels es ez ep = rw (es, ez, ep) refl

-- sums of a unit each, what is lost of them, and two shutters: the items of both cells
counted : (unit kept lost a b shutters s s' : ℕ) → kept + lost ≡ a + b + shutters / unit → shutters ≡ s + s'
    → shutters % unit + unit * kept + unit * lost ≡ s + unit * a + (s' + unit * b)
counted unit kept lost a b shutters s s' e es =
    let carry = shutters / unit in
    let left : unit * (kept + lost) ≡ unit * (a + b + carry) = rw e refl in
    omega (arith, left, mul-add unit kept lost, mul-add unit (a + b) carry, mul-add unit a b, div-add-mod' shutters unit, mul_comm carry unit)

-- THE MERGE
pub record Merged (t c : ℕ) (b : List ℕ) (σ : ℕ) (s : Step) : Type 0 where
  pub kept : Kept t b s.bytes
  pub sound : sound_of t c s.bytes ≡ true
  pub zoom_ge : zoom_of t b ≤ zoom_of t s.bytes
  pub state : s.state ≡ state_after s.draws σ
  pub draws : s.draws ≤ pixels_of t * max_zoom c
  pub lost_below : zoom_of t s.bytes < max_zoom c → s.lost ≡ 0

module _ (t c n : ℕ) (b src : List ℕ) (σ : ℕ) (fit : Fit t c (length b)) (fit' : Fit t c (length src))
    (sound : sound_of t c b ≡ true) (sound' : sound_of t c src ≡ true) where
  abbrev target : ℕ
  target = max (zoom_of t b) (zoom_of t src)

  abbrev shutters : ℕ
  shutters = shutter_of t b + shutter_of t src

  -- the levels that each cell lacks
  abbrev down : ℕ
  down = target - zoom_of t b

  abbrev down' : ℕ
  down' = target - zoom_of t src

  abbrev added : Step
  added = add_each c down down' (pixels_in t b) (pixels_in t src) σ

  abbrev carried : List ℕ
  carried = with_carry (slot_of t n) (shutters / c ^ target) added.bytes

  abbrev settled : Settled
  settled = settle_of c target carried added.state

  low : target ≤ max_zoom c
  low = target_low t c b src sound sound' fit.c_low target refl

  pixels_length : (l : List ℕ) → length l ≡ depth_of t → length (pixels_in t l) ≡ pixels_of t
  pixels_length l e = length-take-le (t + 2) l (omega arith)

  carried_length : length carried ≡ pixels_of t
  carried_length =
      length-set added.bytes (slot_of t n) _
      ∙ add_length c down down' (pixels_in t b) (pixels_in t src) σ (pixels_length src fit'.size_is ∙ sym (pixels_length b fit.size_is))
      ∙ pixels_length b fit.size_is

  -- two pixels of 255, and the carry
  pub merge_sums : Small b → Small src → (i : ℕ) → get_or carried i 0 ≤ 511
  merge_sums small small' i =
      let sums : (j : ℕ) → get_or added.bytes j 0 ≤ 510 =
      add_sums c down down' (pixels_in t b) (pixels_in t src) σ fit.c_low (λ j. omega (arith, small_take (pixels_of t) b small j))
      (λ j. omega (arith, small_take (pixels_of t) src small' j))
      in
      let carry : shutters / c ^ target ≤ 1 = carry_le t c b src sound sound' fit.c_low target refl (c ^ target) shutters refl refl in
      let slot = slot_of t n in
      let credited = get_or added.bytes slot 0 + shutters / c ^ target in
      omega (arith, bounded_set 512 added.bytes slot credited (omega (arith, sums slot)) (λ j. omega (arith, sums j)) i)

  ends : Settles (max_zoom c - target) target carried added.state settled
  ends = settles c (max_zoom c - target) target carried added.state

  zoom_low : settled.zoom ≤ max_zoom c
  zoom_low = omega (arith, low, ends.zoom_le)

  abbrev filled : List ℕ
  filled = with_pixels t settled.sums.bytes b

  filled_kept : Kept t b filled
  filled_kept =
      with_pixels_kept t settled.sums.bytes b (ends.long ∙ carried_length) b (kept_same t b) fit.size_is
      (λ h i. omega (arith, most_at 255 settled.sums.bytes i ends.low))

  abbrev raised : List ℕ
  raised = with_zoom t settled.zoom filled

  raised_kept : Kept t b raised
  raised_kept = kept_then t b filled raised filled_kept (with_zoom_kept t settled.zoom filled (omega (arith, zoom_low, max_zoom_limit c)))

  raised_size : length raised ≡ depth_of t
  raised_size = raised_kept.long ∙ fit.size_is

  abbrev rest : ℕ
  rest = shutters % c ^ target

  merged_zoom : zoom_of t (with_shutter t rest raised) ≡ settled.zoom
  merged_zoom = with_shutter_zoom t rest raised raised_size ∙ with_zoom_zoom t settled.zoom filled (filled_kept.long ∙ fit.size_is)

  rest_low : rest < c ^ target
  rest_low = mod-lt shutters (target_positive t c b src sound sound' fit.c_low target refl (c ^ target) shutters refl refl)

  merged_sound : sound_of t c (with_shutter t rest raised) ≡ true
  merged_sound =
      let positive : 0 < c = omega (arith, fit.c_low) in
      let fits : c ^ target ≤ 2 ^ 32 - 1 = zoom_fits c fit.c_low target low in
      sound_is t c (with_shutter t rest raised) (rw merged_zoom zoom_low)
      (rw (merged_zoom, with_shutter_shutter t rest raised raised_size (omega (arith, rest_low)))
      (lt_of_lt_of_le rest_low (pow-le-pow_right positive ends.zoom_ge)))

  -- a pixel is divided once for each level that its cell lacks, and its sum once for each raise: no more than max_zoom in all
  few : added.draws + settled.sums.draws ≤ pixels_of t * max_zoom c
  few =
      let levels : ℕ = down + down' in
      let a : added.draws ≤ pixels_of t * levels =
      rw (pixels_length b fit.size_is) at (add_draws c down down' (pixels_in t b) (pixels_in t src) σ)
      in
      let d : settled.sums.draws ≤ pixels_of t * (max_zoom c - target) = rw (carried_length, mul_comm (max_zoom c - target) (pixels_of t)) at ends.draws in
      let m : pixels_of t * (levels + (max_zoom c - target)) ≤ pixels_of t * max_zoom c = mul-le-mul_left (pixels_of t) (omega (arith, low)) in
      omega (arith, mul-add (pixels_of t) levels (max_zoom c - target))

  below_top : zoom_of t (with_shutter t rest raised) < max_zoom c → settled.sums.lost ≡ 0
  below_top h = ends.lost_below (omega (arith, rw merged_zoom at h, low))

  pub merged_leaves : Merged t c b σ (merge_of t c n b src σ)
  unfolding merge_of sums_of
  merged_leaves = record {
    kept = kept_then t b raised _ raised_kept (with_shutter_kept t rest raised raised_size);
    sound = merged_sound;
    zoom_ge = rw merged_zoom (omega (arith, ends.zoom_ge));
    state = ends.state ∙ after_then added.draws _ σ added.state (add_state c down down' (pixels_in t b) (pixels_in t src) σ);
    draws = few;
    lost_below = below_top;
  }

  -- WHAT A MERGE LOSES (document 02, T-04): its pixels are the sums before any was cut, each cut to 255
  abbrev uncut : List ℕ
  uncut = raised_from c (max_zoom c - target) carried added.state

  cut : CutFrom uncut settled
  cut = settle_cut c (max_zoom c - target) target carried added.state

  merged_pixels : pixels_in t (with_shutter t rest raised) ≡ settled.sums.bytes
  merged_pixels =
      with_shutter_pixels t rest raised raised_size ∙ with_zoom_pixels t settled.zoom filled
      ∙ with_pixels_pixels t settled.sums.bytes b (ends.long ∙ carried_length)

  -- where the zoom stays, the sums are those of the pixels and the carry
  module _ (alike : zoom_of t src ≡ zoom_of t b) (stays : settled.zoom ≡ target) where
    flat : target ≡ zoom_of t b
    flat = omega (arith, alike)

    flat_sums : sum_of uncut ≡ sum_of (pixels_in t b) + sum_of (pixels_in t src) + shutters / c ^ target
    flat_sums =
        let none : down ≡ 0 = omega (arith, alike) in
        let none' : down' ≡ 0 = omega (arith, alike) in
        let paired = pixels_length src fit'.size_is ∙ sym (pixels_length b fit.size_is) in
        let added-sum : sum_of added.bytes ≡ sum_of (pixels_in t b) + sum_of (pixels_in t src) =
        rw (none, none') (flat_sum c (pixels_in t b) (pixels_in t src) σ paired) in
        let long : slot_of t n < length added.bytes =
        rw (add_length c down down' (pixels_in t b) (pixels_in t src) σ paired, pixels_length b fit.size_is) (slot_inside t n) in
        ap sum_of (settle_flat c (max_zoom c - target) target carried added.state stays)
        ∙ sum_more added.bytes (slot_of t n) (shutters / c ^ target) long ∙ rw added-sum refl

    flat_balance : Balances t c (with_shutter t rest raised) settled.sums.lost (total_of t c b + total_of t c src)
    flat_balance =
        let unit = c ^ target in
        let kept = settled.sums.bytes in
        let lost = settled.sums.lost in
        let whole : sum_of kept + lost ≡ sum_of (pixels_in t b) + sum_of (pixels_in t src) + shutters / unit = rw (cut.bytes, cut.lost) (cut_lost uncut) ∙ flat_sums in
        let written : shutter_of t (with_shutter t rest raised) ≡ rest =
        with_shutter_shutter t rest raised raised_size (omega (arith, rest_low, zoom_fits c fit.c_low target low)) in
        let after = total_read t c (with_shutter t rest raised) rest target kept written (merged_zoom ∙ stays) merged_pixels in
        let unit-after : c ^ zoom_of t (with_shutter t rest raised) ≡ unit = rw (merged_zoom, stays) refl in
        let here = total_read t c b (shutter_of t b) target (pixels_in t b) refl (sym flat) refl in
        let there = total_read t c src (shutter_of t src) target (pixels_in t src) refl (alike ∙ sym flat) refl in
        rw (after, unit-after, here, there)
        (counted unit (sum_of kept) lost (sum_of (pixels_in t b)) (sum_of (pixels_in t src)) shutters (shutter_of t b) (shutter_of t src) whole refl)

  pub merge_loses : MergeLoses t c n b src σ
  unfolding merge_of sums_of
  merge_loses = record {
    pixels = merged_pixels ∙ cut.bytes;
    sums = sym (rw (merged_pixels, cut.bytes, cut.lost) (cut_lost uncut));
    below_top = below_top;
    balance = λ alike stays. flat_balance alike (sym merged_zoom ∙ stays ∙ omega (arith, alike));
  }
