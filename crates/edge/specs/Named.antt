-- Document 02, T-09, for every call of the library that judges cells, as its caller sees it: where the number is 14, the index beside it is that of an
-- unsound cell, one of those judged, and the smallest of these in grid order. In a call on one cell it is 0.
use Rattle.std.specs.Prelude.{ℕ, ◌≡◌, List, Float, length, get_or}
use Rattle.clock.specs.Clock.{tick_of, advance_of}
use Rattle.cell.specs.Named.{UnsoundCell, UnsoundOfTwo}
use Rattle.sketch.specs.declared.MicroCm.{MicroCm}
use Rattle.sketch.specs.Named.{GridCell, KeyCell, NoCell, MovingCell, SmallestUnsound, AllSound, SmallestOfTwo}
use Rattle.store.specs.Named.{SmallestStored}
use Rattle.codes.specs.Named.{CodeCell}
use Rattle.edge_values.specs.Edge.{params_of, sketch_of, watch_of}
use Rattle.edge.specs.Calls.{loaded_from, updated, updated_at, advanced, merged, estimated, estimated_with, mean_told, highest_told, audited, saved_as}
use Rattle.edge.specs.Calls.{codes_asked_by, inserted, entered, cells_merged}

-- what a call tells begins with the index
abbrev pub index_in : List ℕ → ℕ
index_in words = get_or words 0 0

-- WHAT AN AUDIT FOUND, an index and a 1, or a 0 and a 0: the smallest unsound cell, or that every cell is sound
pub record Found (k : MicroCm) (g words : List ℕ) : Type 0 where
  pub clear : get_or words 1 0 ≡ 0 → AllSound k g
  pub named : get_or words 1 0 ≡ 1 → SmallestUnsound (GridCell k) k g (index_in words)

pub record EdgeNames : Type 0 where
  -- an item within its sub-window judges the key's cells, one that crosses the whole grid; time that passes the whole grid if it crosses, else none
  pub update : (w key g : List ℕ) → let k = sketch_of w in let r = updated w key g in
      r.number ≡ 14 → SmallestUnsound (MovingCell k (tick_of k.clock) (KeyCell k key)) k g (index_in r.change)
  pub update_at : (w key : List ℕ) (time : ℕ) (g : List ℕ) → let k = sketch_of w in let r = updated_at w key time g in
      r.number ≡ 14 → SmallestUnsound (MovingCell k (advance_of k.clock time) (KeyCell k key)) k g (index_in r.change)
  pub advance_to : (w : List ℕ) (time : ℕ) (g : List ℕ) → let k = sketch_of w in let r = advanced w time g in
      r.number ≡ 14 → SmallestUnsound (MovingCell k (advance_of k.clock time) NoCell) k g (index_in r.change)
  -- a reading and the mean judge the key's cells
  pub estimate : (w key g : List ℕ) → let k = sketch_of w in let r = estimated w key g in
      r.number ≡ 14 → SmallestUnsound (KeyCell k key) k g (index_in r.items)
  pub estimate_with : (w key : List ℕ) (fraction : Float) (g : List ℕ) → let k = sketch_of w in let r = estimated_with w key fraction g in
      r.number ≡ 14 → SmallestUnsound (KeyCell k key) k g (index_in r.items)
  pub mean : (w key g : List ℕ) → let k = sketch_of w in let r = mean_told w key g in
      r.number ≡ 14 → SmallestUnsound (KeyCell k key) k g (index_in r.told)
  -- the highest zoom, the audit and a save judge the whole grid, a load the stored one, a merge both, the receiving one first
  pub max_zoom_lem : (w g : List ℕ) → let k = sketch_of w in let r = highest_told w g in
      r.number ≡ 14 → SmallestUnsound (GridCell k) k g (index_in r.told)
  pub audit : (w g : List ℕ) → (audited w g).number ≡ 0 → Found (sketch_of w) g (audited w g).told
  pub save : (w g store : List ℕ) → let k = sketch_of w in let r = saved_as w g store in
      r.number ≡ 14 → SmallestUnsound (GridCell k) k g r.index
  pub load : (w p g store : List ℕ) → let r = loaded_from w p g store in r.start.number ≡ 14 → SmallestStored store r.index
  pub merge : (w g other g' : List ℕ) → let r = merged w g other g' in
      r.number ≡ 14 → SmallestOfTwo (sketch_of w) g (sketch_of other) g' (index_in r.change)
  -- an asking judges the cells of all the codes
  pub ask : (w p columns limits g list : List ℕ) → length columns ≡ 8192 → let k = sketch_of w in let r = codes_asked_by w p columns limits g list in
      r.number ≡ 14 → SmallestUnsound (CodeCell k (watch_of p) columns) k g (index_in r.told)
  -- one cell; those calls that only read one tell no index
  pub insert : (t c n : ℕ) (b : List ℕ) (state : ℕ) → let r = inserted t c n b state in
      r.number ≡ 14 → UnsoundCell (params_of t c) b (index_in r.change)
  pub enter_sub_window : (t c n crossed : ℕ) (b : List ℕ) (state : ℕ) → let r = entered t c n crossed b state in
      r.number ≡ 14 → UnsoundCell (params_of t c) b (index_in r.change)
  pub merge_cells : (t c n : ℕ) (b b' : List ℕ) (state : ℕ) → let r = cells_merged t c n b b' state in
      r.number ≡ 14 → UnsoundOfTwo (params_of t c) b b' (index_in r.change)
