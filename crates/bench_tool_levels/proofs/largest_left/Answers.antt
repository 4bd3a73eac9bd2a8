use Rattle.bench_tool_levels.proofs.LevelLaws.{cleared_holds, other_holds, seen_begin, seen_on, seen_end}
use Rattle.std.proofs.Common.{rules, ◌≡◌}
use Rattle.cell.specs.Cell.{pixel_of, with_pixel}
use Rattle.bench_tool_levels.proofs.largest_left.Goals as goal
use Rattle.bench_tool_levels.proofs.largest_left.Goals.{then-slot-cleared, else-slot-cleared}

pub loop-slot-init : goal.loop-slot-init
loop-slot-init c = search (seen_begin, rules)

pub loop-slot-preserved : goal.loop-slot-preserved
loop-slot-preserved c =
    let holds : c.if-slot-cleared.held ≡ pixel_of (with_pixel c.args.cleared 0 c.args.pixels.now) c.loop-slot.slot =
    elim c.if-slot-cleared.branch [
      | then-slot-cleared w ↦ search (cleared_holds, rules)
      | else-slot-cleared w ↦ search (other_holds, rules)
    ] in
    search (seen_on, rules)

pub returns : goal.returns
returns c = search (seen_end, rules)
