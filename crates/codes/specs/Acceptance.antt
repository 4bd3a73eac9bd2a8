-- Document 02, T-01, in other words: which lists and which askings are accepted. A definition that refused more, or looked at another cell, would not
-- have these.
use Rattle.std.specs.Prelude.{ℕ, ◌*◌, ◌≤◌, ◌<◌, ◌≡◌, true, List, length}
use Rattle.refusal.specs.declared.Verdict.TheVariants.{Accepted}
use Rattle.sketch.specs.declared.MicroCm.{MicroCm}
use Rattle.sketch.specs.Refusals.{key_fits, sketch_verdict, read_verdict}
use Rattle.codes.specs.declared.Watch.{Watch}
use Rattle.codes.specs.Codes.{code_in}
use Rattle.codes.specs.Refusals.{set_verdict, ask_verdict}

pub record CodeAcceptance : Type 0 where
  -- up to 64 codes, each of which is a key of the sketch, can be set
  pub sets : (k : MicroCm) (g columns : List ℕ) (count : ℕ) → sketch_verdict k g ≡ Accepted → length columns ≡ count * k.rows
      → ((i : ℕ) → i < count → key_fits k (code_in k.rows columns i) ≡ true) → count ≤ 64 → set_verdict k columns count ≡ Accepted
  -- codes each of which can be read, whatever the other cells hold, can be asked with a list that has a place for each
  pub asks : (k : MicroCm) (w : Watch) (columns g : List ℕ) (room : ℕ) → sketch_verdict k g ≡ Accepted → w.rows ≡ k.rows → length columns ≡ 8192
      → ((i : ℕ) → i < w.count → read_verdict k (code_in k.rows columns i) g ≡ Accepted) → w.count ≤ 64 → w.count ≤ room
      → ask_verdict k w columns g room ≡ Accepted
  -- and no codes with any list
  pub asks_none : (k : MicroCm) (w : Watch) (columns g : List ℕ) (room : ℕ) → sketch_verdict k g ≡ Accepted → w.count ≡ 0
      → ask_verdict k w columns g room ≡ Accepted
