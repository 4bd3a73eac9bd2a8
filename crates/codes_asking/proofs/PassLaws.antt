-- The pass over the codes: what stands before this code is listed, and its flags are set. Assumes nothing.
use Prim.Native.Nat.{ℕ, suc, ◌+◌, ◌*◌, ◌^◌, ◌≤◌, ◌<◌}
use mathlib.Core.Path.{◌≡◌, refl, sym, ◌∙◌}
use mathlib.Core.Bool.{Bool, true, false, not, cond, ◌&&◌}
use mathlib.Core.List.{List, [], ◌∷◌, ◌++◌, append_assoc}
use native.Mathlib.Omega.{arith}
use native.Mathlib.Numerals.{add-one}
use lib.Dec.{leb}
use lib.ListN.{length, get_or, drop, set, length-append, length-set}
use lib.Seq.{drop-cons, set_at}
use Rattle.sketch.specs.declared.MicroCm.{MicroCm}
use Rattle.sketch.specs.Figures.{over_of}
use Rattle.sketch.proofs.AddressLaws.{product_le}
use Rattle.codes.specs.Codes.{code_in, reached_at, newly, flag_at, flags_of}
use Rattle.codes.proofs.FlagLaws.{flags_below}
use Rattle.codes.proofs.CodeLaws.{code_inside}
use Rattle.codes_asking.specs.Workers.{Askable, Room, Noted}

-- one more is written behind xs
onto_on : (xs old : List ℕ) (i v : ℕ) → length xs ≡ i → i < length old → set (xs ++ drop i old) i v ≡ (xs ++ (v ∷ [])) ++ drop (i + 1) old
onto_on xs old i v e h = rw (drop-cons old i v h, set_at xs (get_or old i v) (drop (suc i) old) v i e, append_assoc, add-one) refl

-- THE PASS
module _ (k : MicroCm) (columns limits g : List ℕ) (before : ℕ) where
  abbrev found : ℕ → List ℕ
  found n = newly (reached_at k g columns limits) (flag_at before) n

  abbrev new_at : ℕ → Bool
  new_at n = reached_at k g columns limits n && not (flag_at before n)

  module _ (list₀ : List ℕ) where
    pub record Passing (list : List ℕ) (listed reached code : ℕ) : Type 0 where
      pub reached_is : reached ≡ flags_of (reached_at k g columns limits) code
      pub reached_low : reached < 2 ^ code
      pub listed_is : listed ≡ length (found code)
      pub list_is : list ≡ found code ++ drop listed list₀
      pub roomy : length list ≡ length list₀
      pub few : listed ≤ code

    pub passing_begin : Passing list₀ 0 0 0
    unfolding flags_of newly
    passing_begin =
        record { reached_is = refl; reached_low = omega arith; listed_is = refl; list_is = refl; roomy = refl; few = omega arith }

    module _ (count : ℕ) (list : List ℕ) (listed reached code : ℕ) (w : Passing list listed reached code) where
      noted : (new : Bool) (list' : List ℕ) (listed' : ℕ) → new ≡ new_at code → listed < length list₀ → Noted list listed code new list' listed'
          → (listed' ≡ length (found (suc code))) × (list' ≡ found (suc code) ++ drop listed' list₀) × (length list' ≡ length list₀) × (listed' ≤ code + 1)
      unfolding newly
      noted true list' listed' e h n =
          let l : length (found code) ≡ listed = sym w.listed_is in (
            n.listed_is ∙ rw (← e) (simp length-append (omega (arith, w.listed_is))),
            n.list_is ∙ rw (n.listed_is, ← e, w.list_is) (onto_on (found code) list₀ listed code l h),
            rw n.list_is (length-set list listed code ∙ w.roomy),
            omega (arith, n.listed_is, w.few),
          )
      noted false list' listed' e h n = (
        n.listed_is ∙ rw (← e) (simp length-append (omega (arith, w.listed_is))),
        n.list_is ∙ rw (n.listed_is, ← e, w.list_is) (rw append_assoc refl),
        rw n.list_is w.roomy,
        omega (arith, n.listed_is, w.few),
      )

      module _ (room : Room k count columns limits g list₀) where
        pub passing_askable : code < count → Askable k columns g code
        passing_askable h =
            let read = room.readable code h in
            let all : count * k.rows ≤ 64 * 128 = product_le count k.rows 64 128 room.few read.ready.rows_high in
            record { room = omega (arith, code_inside k.rows count code h, room.long); long = room.long; readable = read }

        pub passing_on : (over reached' listed' : ℕ) (list' : List ℕ) → code < count → over ≡ over_of k g (code_in k.rows columns code)
            → Noted list listed code (leb (get_or limits code 0) over && not (flag_at before code)) list' listed'
            → reached' ≡ reached + cond (leb (get_or limits code 0) over) (2 ^ code) 0
            → Passing list' listed' reached' (code + 1)
        unfolding flags_of reached_at
        passing_on over reached' listed' list' h e n er =
            let f : (leb (get_or limits code 0) over && not (flag_at before code)) ≡ new_at code = rw e refl in
            let t = noted (leb (get_or limits code 0) over && not (flag_at before code)) list' listed' f (omega (arith, room.room, w.few)) n in
            let r : reached' ≡ flags_of (reached_at k g columns limits) (suc code) = er ∙ rw (w.reached_is, e) refl in
            record {
              reached_is = rw add-one r;
              reached_low = rw (add-one, r) (flags_below (reached_at k g columns limits) (suc code));
              listed_is = rw add-one t.0;
              list_is = rw add-one t.1;
              roomy = t.2;
              few = t.3;
            }
