-- A call at the edge is the core's call between two changes of form, so its outcome is the core's in the other form. Assumes nothing.
use Prim.Native.Nat.{ℕ}
use mathlib.Core.Path.{◌≡◌, refl, ap, ◌∙◌}
use mathlib.Core.List.{List, [], ◌∷◌}
use lib.Ieee.{Float}
use Rattle.refusal.specs.declared.Verdict.{Verdict}
use Rattle.refusal.specs.Refusals.{number_of, index_of, when_accepted}
use Rattle.rounding.specs.declared.DrawAnswer.{DrawAnswer}
use Rattle.rounding.specs.declared.DivisionAnswer.{DivisionAnswer}
use Rattle.rounding.specs.Refusals.{draw_call, division_call}
use Rattle.cell.specs.declared.MicroParams.{MicroParams}
use Rattle.cell.specs.declared.LayoutAnswer.{LayoutAnswer}
use Rattle.cell.specs.declared.ZoomAnswer.{ZoomAnswer}
use Rattle.cell.specs.declared.ShutterAnswer.{ShutterAnswer}
use Rattle.cell.specs.declared.PixelAnswer.{PixelAnswer}
use Rattle.cell.specs.declared.CellAnswer.{CellAnswer}
use Rattle.cell.specs.Refusals as cells
use Rattle.clock.specs.declared.SubWindowClock.{SubWindowClock}
use Rattle.sketch.specs.declared.MicroCm.{MicroCm}
use Rattle.sketch.specs.declared.SketchAnswer.{SketchAnswer}
use Rattle.sketch.specs.declared.ReadingAnswer.{ReadingAnswer}
use Rattle.sketch.specs.declared.MeanAnswer.{MeanAnswer}
use Rattle.sketch.specs.declared.HighestAnswer.{HighestAnswer}
use Rattle.sketch.specs.declared.AuditAnswer.{AuditAnswer}
use Rattle.sketch.specs.Refusals.{SketchOutcome, sketch_outcome, update_call, advance_call, merge_call}
use Rattle.sketch.specs.Refusals.{read_call, read_with_call, mean_call, bucket_verdict, highest_call, audit_call}
use Rattle.store.specs.declared.LengthAnswer.{LengthAnswer}
use Rattle.store.specs.Refusals.{save_outcome, length_call, save_call}
use Rattle.store_shape.specs.declared.ShapeAnswer.{ShapeAnswer}
use Rattle.store_shape.specs.Shape.{shape_call}
use Rattle.codes.specs.declared.Watch.{Watch}
use Rattle.codes.specs.declared.WatchAnswer.{WatchAnswer}
use Rattle.codes.specs.declared.AskAnswer.{AskAnswer}
use Rattle.codes.specs.Refusals.{set_outcome, set_call, ask_outcome, ask_call}
use Rattle.service.specs.declared.ServiceAnswer.{ServiceAnswer}
use Rattle.service.specs.Service.{ServiceOutcome, service_outcome, start_call, load_call}
use Rattle.edge_values.specs.Edge.{clock_of, base_of, params_of, sketch_of, watch_of, watch_words, words_after, change_of, changed, changed_of}
use Rattle.edge_values.specs.Edge.{sketch_after, codes_after, started, started_of, loaded, loaded_of, figures_of, items_of, read, read_of}
use Rattle.edge_values.specs.Edge.{valued, told, found_of, shape_words, saved, saved_of, codes_set, codes_set_of, codes_asked, codes_asked_of, celled, celled_of, pixel, drawn, divided}
use Rattle.edge.specs.Calls.{started_with, loaded_from, updated, advanced, merged, estimated, estimated_with, mean_told, highest_told, audited}
use Rattle.edge.specs.Calls.{store_length_told, saved_as, shape_told, codes_set_by, codes_asked_by, depth_told, base_told, zoom_told, shutter_told, pixel_told}
use Rattle.edge.specs.Calls.{inserted, entered, cells_merged, drawn_from, divided_by}

-- CALLS THAT CHANGE A SKETCH
module _ (w w' l : List ℕ) (k : MicroCm) (ek : k ≡ sketch_of w) (a : SketchAnswer) (g' : List ℕ) (r : ℕ)
    (left : (r ≡ number_of a.verdict) × (w' ≡ words_after w a) × (l ≡ change_of a.verdict a.draws a.lost)) where
  pub put : (o : SketchOutcome) → sketch_outcome a g' ≡ o → changed r w' g' l ≡ changed_of w o
  put o e = rw (left.0, left.1, left.2) (ap (changed_of w) e)

  pub update_put : (key g : List ℕ) → sketch_outcome a g' ≡ update_call k key g → changed r w' g' l ≡ updated w key g
  update_put key g e = put (update_call (sketch_of w) key g) (e ∙ rw ek)

  pub advance_put : (time : ℕ) (g : List ℕ) → sketch_outcome a g' ≡ advance_call k time g → changed r w' g' l ≡ advanced w time g
  advance_put time g e = put (advance_call (sketch_of w) time g) (e ∙ rw ek)

  pub merge_put : (g other g₂ : List ℕ) (j : MicroCm) → j ≡ sketch_of other → sketch_outcome a g' ≡ merge_call k g j g₂
      → changed r w' g' l ≡ merged w g other g₂
  merge_put g other g₂ j ej e = put (merge_call (sketch_of w) g (sketch_of other) g₂) (e ∙ rw (ek, ej))

-- A FRESH START AND A LOAD
module _ (w w' p p' : List ℕ) (a : ServiceAnswer) (r : ℕ) (g' : List ℕ) where
  start : (o : ServiceOutcome) → service_outcome a g' ≡ o
      → (r ≡ number_of a.verdict) × (w' ≡ sketch_after w a) × (p' ≡ codes_after p a) → started r w' p' g' ≡ started_of w p o
  start o e left = rw (left.0, left.1, left.2) (ap (started_of w p) e)

  pub new_put : (clock : SubWindowClock) (params : MicroParams) (rows cols t c kind length epoch seed : ℕ) (g : List ℕ)
      → clock ≡ clock_of kind length epoch epoch → params ≡ params_of t c
      → service_outcome a g' ≡ start_call rows cols params clock seed g
      → (r ≡ number_of a.verdict) × (w' ≡ sketch_after w a) × (p' ≡ codes_after p a)
      → started r w' p' g' ≡ started_with w p rows cols t c kind length epoch seed g
  new_put clock params rows cols t c kind length epoch seed g ec ep e left =
      start (start_call rows cols (params_of t c) (clock_of kind length epoch epoch) seed g) (e ∙ rw (ec, ep)) left

  pub load_put : (g store : List ℕ) (index : ℕ) → service_outcome a g' ≡ load_call g store
      → (r ≡ number_of a.verdict) × (w' ≡ sketch_after w a) × (p' ≡ codes_after p a) × (index ≡ index_of a.verdict)
      → loaded (started r w' p' g') index ≡ loaded_from w p g store
  load_put g store index e left = rw (left.0, left.1, left.2, left.3) (ap (loaded_of w p) e)

-- CALLS THAT READ A SKETCH
module _ (w : List ℕ) (k : MicroCm) (ek : k ≡ sketch_of w) (r : ℕ) where
  module _ (a : ReadingAnswer) (f : List Float) (l : List ℕ) (left : (r ≡ number_of a.verdict) × (f ≡ figures_of a) × (l ≡ items_of a)) where
    pub read_told : (key g : List ℕ) → a ≡ read_call k key g → read r f l ≡ estimated w key g
    read_told key g e =
        let q : a ≡ read_call (sketch_of w) key g = e ∙ rw ek in
        rw (left.0, left.1, left.2) (ap read_of q)

    pub read_with_told : (key : List ℕ) (fraction : Float) (g : List ℕ) → a ≡ read_with_call k key fraction g
        → read r f l ≡ estimated_with w key fraction g
    read_with_told key fraction g e =
        let q : a ≡ read_with_call (sketch_of w) key fraction g = e ∙ rw ek in
        rw (left.0, left.1, left.2) (ap read_of q)

  pub mean_told_lem : (key g : List ℕ) (a : MeanAnswer) (l : List ℕ) → a ≡ mean_call k key g
      → (r ≡ number_of a.verdict) × (l ≡ index_of a.verdict ∷ a.mean ∷ []) → told r l ≡ mean_told w key g
  mean_told_lem key g a l e left = rw (left.0, left.1, e, ek) refl

  pub highest_told_lem : (g : List ℕ) (a : HighestAnswer) (l : List ℕ) → a ≡ highest_call k g
      → (r ≡ number_of a.verdict) × (l ≡ index_of a.verdict ∷ a.zoom ∷ []) → told r l ≡ highest_told w g
  highest_told_lem g a l e left = rw (left.0, left.1, e, ek) refl

  pub audit_told : (g : List ℕ) (a : AuditAnswer) (l : List ℕ) → a ≡ audit_call k g
      → (r ≡ number_of a.verdict) × (l ≡ found_of a.audit) → told r l ≡ audited w g
  audit_told g a l e left = rw (left.0, left.1, e, ek) refl

  pub bucket_told : (row col : ℕ) (g : List ℕ) (v : Verdict) → v ≡ bucket_verdict k row col g → r ≡ number_of v
      → r ≡ number_of (bucket_verdict (sketch_of w) row col g)
  bucket_told row col g v e er = er ∙ rw (e, ek)

  -- STORES
  pub length_told : (a : LengthAnswer) → a ≡ length_call k → r ≡ number_of a.verdict → valued r a.length ≡ store_length_told w
  length_told a e er = rw (er, e, ek) refl

  pub save_told : (g store store' : List ℕ) (v : Verdict) (index : ℕ) → save_outcome v store' ≡ save_call k g store
      → (r ≡ number_of v) × (index ≡ index_of v) → saved r store' index ≡ saved_as w g store
  save_told g store store' v index e left =
      let q : save_outcome v store' ≡ save_call (sketch_of w) g store = e ∙ rw ek in
      rw (left.0, left.1) (ap saved_of q)

  -- WATCHED CODES
  module _ (p p' : List ℕ) (watch : Watch) (ew : watch ≡ watch_of p) where
    pub set_told : (columns limits kept kept-limits now now-limits : List ℕ) (a : WatchAnswer)
        → set_outcome a now now-limits ≡ set_call k watch columns limits kept kept-limits
        → (r ≡ number_of a.verdict) × (p' ≡ when_accepted a.verdict (watch_words a.watch) p)
        → codes_set r p' now now-limits ≡ codes_set_by w p columns limits kept kept-limits
    set_told columns limits kept kept-limits now now-limits a e left =
        let q : set_outcome a now now-limits ≡ set_call (sketch_of w) (watch_of p) columns limits kept kept-limits = e ∙ rw (ek, ew) in
        rw (left.0, left.1) (ap (codes_set_of p) q)

    pub ask_told : (columns limits g list list' l : List ℕ) (a : AskAnswer) → ask_outcome a list' ≡ ask_call k watch columns limits g list
        → (r ≡ number_of a.verdict) × (p' ≡ when_accepted a.verdict (watch_words a.watch) p)
        × (l ≡ index_of a.verdict ∷ a.listed ∷ [])
        → codes_asked r p' list' l ≡ codes_asked_by w p columns limits g list
    ask_told columns limits g list list' l a e left =
        let q : ask_outcome a list' ≡ ask_call (sketch_of w) (watch_of p) columns limits g list = e ∙ rw (ek, ew) in
        rw (left.0, left.1, left.2) (ap (codes_asked_of p) q)

pub shape_told_lem : (store : List ℕ) (a : ShapeAnswer) (r : ℕ) (l : List ℕ) → a ≡ shape_call store
    → (r ≡ number_of a.verdict) × (l ≡ shape_words a) → told r l ≡ shape_told store
shape_told_lem store a r l e left = rw (left.0, left.1, e) refl

-- ONE CELL
module _ (r : ℕ) where
  pub base_told_lem : (c base : ℕ) (a : ZoomAnswer) → base ≡ base_of c → a ≡ cells.max_zoom_call base → r ≡ number_of a.verdict
      → valued r a.zoom ≡ base_told c
  base_told_lem c base a eb e er = rw (er, e, eb) refl

  module _ (t c : ℕ) (params : MicroParams) (ep : params ≡ params_of t c) where
    pub depth_told_lem : (a : LayoutAnswer) → a ≡ cells.layout_call params → r ≡ number_of a.verdict → valued r a.layout.depth ≡ depth_told t c
    depth_told_lem a e er = rw (er, e, ep) refl

    pub check_told : (b : List ℕ) (v : Verdict) → v ≡ cells.cell_verdict params b → r ≡ number_of v
        → r ≡ number_of (cells.cell_verdict (params_of t c) b)
    check_told b v e er = er ∙ rw (e, ep)

    pub zoom_told_lem : (b : List ℕ) (a : ZoomAnswer) → a ≡ cells.zoom_call params b → r ≡ number_of a.verdict → valued r a.zoom ≡ zoom_told t c b
    zoom_told_lem b a e er = rw (er, e, ep) refl

    pub shutter_told_lem : (b : List ℕ) (a : ShutterAnswer) → a ≡ cells.shutter_call params b → r ≡ number_of a.verdict
        → valued r a.shutter ≡ shutter_told t c b
    shutter_told_lem b a e er = rw (er, e, ep) refl

    pub pixel_told_lem : (n : ℕ) (b : List ℕ) (a : PixelAnswer) → a ≡ cells.pixel_call params n b → r ≡ number_of a.verdict
        → pixel r a.items ≡ pixel_told t c n b
    pixel_told_lem n b a e er = rw (er, e, ep) refl

    -- calls that change it
    module _ (a : CellAnswer) (b b' : List ℕ) (state state' n : ℕ) (l : List ℕ)
        (left : (r ≡ number_of a.verdict) × (state' ≡ a.rounding.state) × (l ≡ change_of a.verdict a.draws a.lost)) where
      cell_put : (o : cells.CellOutcome) → cells.cell_outcome b' a ≡ o → celled r b' state' l ≡ celled_of o
      cell_put o e = rw (left.0, left.1, left.2) (ap celled_of e)

      pub insert_put : cells.cell_outcome b' a ≡ cells.insert_call params n b state → celled r b' state' l ≡ inserted t c n b state
      insert_put e = cell_put (cells.insert_call (params_of t c) n b state) (e ∙ rw ep)

      pub enter_put : (crossed : ℕ) → cells.cell_outcome b' a ≡ cells.cross_call params n crossed b state
          → celled r b' state' l ≡ entered t c n crossed b state
      enter_put crossed e = cell_put (cells.cross_call (params_of t c) n crossed b state) (e ∙ rw ep)

      pub merge_cell_put : (src : List ℕ) → cells.cell_outcome b' a ≡ cells.merge_call params n b src state
          → celled r b' state' l ≡ cells_merged t c n b src state
      merge_cell_put src e = cell_put (cells.merge_call (params_of t c) n b src state) (e ∙ rw ep)

-- THE DRAWS
module _ (r state state' : ℕ) where
  pub draw_told : (a : DrawAnswer) (value : ℕ) → a ≡ draw_call state
      → (r ≡ number_of a.verdict) × (state' ≡ a.rounding.state) × (value ≡ a.value) → drawn r state' value ≡ drawn_from state
  draw_told a value e left = rw (left.0, left.1, left.2, e) refl

  pub division_told : (a : DivisionAnswer) (value divisor quotient : ℕ) (l : List ℕ) → a ≡ division_call value divisor state
      → (r ≡ number_of a.verdict) × (state' ≡ a.rounding.state) × (quotient ≡ a.value) × (l ≡ change_of a.verdict a.draws 0)
      → divided r state' quotient l ≡ divided_by value divisor state
  division_told a value divisor quotient l e left = rw (left.0, left.1, left.2, left.3, e) refl
