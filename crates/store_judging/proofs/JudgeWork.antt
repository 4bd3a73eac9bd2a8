-- The ways through the judges of a store's length, its blocks and its stored cells.
use Prim.Native.Nat.{ℕ, ◌+◌, ◌-◌, ◌*◌, ◌/◌, ◌^◌, ◌≤◌, ◌<◌}
use mathlib.Core.Path.{◌≡◌, sym, ap, ◌∙◌}
use mathlib.Core.Bool.{Bool, true, false, not, ◌&&◌}
use mathlib.Core.List.{List}
use lib.Dec.{leb, ltb}
use lib.ListN.{length, get_or}
use native.Mathlib.Omega.{arith}
use native.Mathlib.Nat.{mul-le-mul}
use Rattle.laws.specs.Bytes.{number_of}
use Rattle.laws.specs.Parts.{part}
use Rattle.laws.proofs.PartLaws.{part_at, piece_room}
use Rattle.refusal.specs.declared.Verdict.TheVariants.{Accepted, Unsound}
use Rattle.cell.specs.Cell.{pixels_of, zoom_at, shutter_at, depth_of, zoom_of, shutter_of, max_zoom, sound_of}
use Rattle.cell.proofs.SoundLaws.{sound_read}
use Rattle.sketch.specs.declared.MicroCm.{MicroCm}
use Rattle.sketch.specs.Sketch.{cells_of, grid_bytes, cell_of, all_cells}
use Rattle.sketch.specs.Refusals.{refuse_unsound, numbers_verdict}
use Rattle.sketch.proofs.JudgeLoops.{AllLeft, all_found, all_on}
use Rattle.store_blocks.specs.Blocks.{carried}
use Rattle.store.specs.Refusals.{grid_in}
use Rattle.store.specs.Workers.{Sized, Stored}
use Rattle.store_bytes.proofs.FillLaws.{part_take, part_part}
use Rattle.store.proofs.SettingsLaws.{settings_good, cells_limit, grid_limit}

-- THE GRID'S BYTES
module _ (k : MicroCm) (good : numbers_verdict k ≡ Accepted) where
  pub cells_fit : k.rows * k.cols < 2 ^ 64
  cells_fit = omega (arith, cells_limit k good)

  module _ (d : ℕ) (ed : d ≡ depth_of k.params.t) where
    size_is : k.rows * k.cols * d ≡ grid_bytes k
    size_is = rw ed

    pub bytes_fit : k.rows * k.cols * d < 2 ^ 64
    bytes_fit = omega (arith, size_is, grid_limit k good)

    pub bytes_are : Sized k (k.rows * k.cols * d)
    bytes_are =
        let s = settings_good k good in
        let cells : 1 * 2 ≤ k.rows * k.cols = mul-le-mul s.grid.rows_low s.grid.cols_low in
        let depth : 8 ≤ depth_of k.params.t = omega (arith, s.fit.t_low) in
        let least : 2 * 8 ≤ grid_bytes k = mul-le-mul cells depth in
        record { is = size_is; some = omega (arith, size_is); few = omega (arith, size_is, grid_limit k good) }

-- A STORED CELL: the five bytes behind its pixels
module _ (t at : ℕ) (l : List ℕ) where
  abbrev cell : List ℕ
  cell = part at (depth_of t) l

  abbrev held : List ℕ
  held = part (at + pixels_of t) 5 l

  zoom_held : get_or held 0 0 ≡ zoom_of t cell
  zoom_held =
      let e : at + pixels_of t + 0 ≡ at + zoom_at t = omega arith in
      part_at (at + pixels_of t) 5 l 0 (omega arith) ∙ ap (λ (i : ℕ). get_or l i 0) e ∙ sym (part_at at (depth_of t) l (zoom_at t) (omega arith))

  shutter_held : number_of (part 1 4 held) ≡ shutter_of t cell
  unfolding shutter_of
  shutter_held =
      let e : at + pixels_of t + 1 ≡ at + shutter_at t = omega arith in
      rw (part_part (at + pixels_of t) 1 4 5 l (omega arith), part_part at (shutter_at t) 4 (depth_of t) l (omega arith), e)

  pub cell_read : (c p : ℕ) (y : List ℕ) (s : ℕ) (r : Bool) → p ≡ pixels_of t → y ≡ part (at + p) 5 l → s ≡ number_of (part 1 4 y)
      → r ≡ (leb (get_or y 0 0) (max_zoom c) && ltb s (c ^ get_or y 0 0)) → r ≡ sound_of t c cell
  cell_read c p y s r ep ey es er =
      let e : y ≡ held = ey ∙ rw ep in
      let zoom : get_or y 0 0 ≡ zoom_of t cell = ap (λ (l : List ℕ). get_or l 0 0) e ∙ zoom_held in
      sound_read t c cell (get_or y 0 0) s r zoom (es ∙ ap (λ (l : List ℕ). number_of (part 1 4 l)) e ∙ shutter_held) er

-- EVERY STORED CELL: those before `index` are sound
module _ (k : MicroCm) (store : List ℕ) (count depth : ℕ) (stored : Stored k (length store)) (ed : depth ≡ depth_of k.params.t) (ec : count ≡ cells_of k) where
  carried_room : grid_bytes k ≤ 504 * (length store / 512 - 1)
  carried_room = omega (arith, stored.exact)

  module _ (index : ℕ) (more : index < count) where
    inside : index * depth + depth ≤ grid_bytes k
    inside = piece_room depth count index (grid_bytes k) more (rw (ec, ed) (omega arith))

    pub judging_room : index * depth + depth_of k.params.t ≤ 504 * (length store / 512 - 1)
    judging_room = omega (arith, ed, inside, carried_room)

    module _ (w : AllLeft k (grid_in k store) count index)
        (r : Bool) (er : r ≡ sound_of k.params.t k.params.c (part (index * depth) (depth_of k.params.t) (carried store))) where
      sound_is : r ≡ sound_of k.params.t k.params.c (cell_of k (grid_in k store) index)
      sound_is =
          let room : index * depth_of k.params.t + depth_of k.params.t ≤ grid_bytes k = rw ed at inside in
          er
          ∙ ap (sound_of k.params.t k.params.c) (rw ed
          (sym (part_take (index * depth_of k.params.t) (depth_of k.params.t) (grid_bytes k) (carried store) room)))

      pub judging_found : not r ≡ true → Unsound index ≡ refuse_unsound k (grid_in k store) (all_cells k) Accepted
      judging_found n = all_found k (grid_in k store) count index w more r sound_is ec n

      pub judging_on : not r ≡ false → AllLeft k (grid_in k store) count (index + 1)
      judging_on n = all_on k (grid_in k store) count index w more r sound_is n
