use Rattle.std.proofs.Common.{◌<◌, ◌≤◌, length, arith}
use Rattle.vb_plan.specs.Maps.{group_count, map_source, map_sources}
use Rattle.vb_plan.specs.Seen.{seen_refs}
use Rattle.vb_plan.proofs.MapSources.{length-map_sources, map_source_at}
use Rattle.vb_plan.proofs.Placing.{all_placed, one_placed, room_for_next}
use Rattle.vb_plan.proofs.map_pages.plan_maps.Goals as goal

pub plan_map-requires-clause-room : goal.plan_map-requires-clause-room
plan_map-requires-clause-room c =
    let old = seen_refs c.args.old.now in
    let s = map_source old c.args.refs.now c.loop-number.number in
    let number : c.loop-number.number < group_count c.args.refs.now = omega arith in
    let within : c.loop-number.number < length (map_sources old c.args.refs.now) = omega (arith, length-map_sources old c.args.refs.now) in
    let next = room_for_next c.loop-number.invariant s within (map_source_at old c.args.refs.now c.loop-number.number s number) in
    omega (arith, next, c.requires.room)

pub loop-number-preserved : goal.loop-number-preserved
loop-number-preserved c =
    let old = seen_refs c.args.old.now in
    let s = map_source old c.args.refs.now c.loop-number.number in
    let number : c.loop-number.number < group_count c.args.refs.now = omega arith in
    let within : c.loop-number.number < length (map_sources old c.args.refs.now) = omega (arith, length-map_sources old c.args.refs.now) in
    one_placed c.loop-number.invariant s within (map_source_at old c.args.refs.now c.loop-number.number s number) _ _ (grind arith) c.in_ok-reference.ensures.written

pub returns-clause-maps : goal.returns-clause-maps
returns-clause-maps c =
    let old = seen_refs c.args.old.now in
    let past : length (map_sources old c.args.refs.now) ≤ c.loop-number.number = omega (arith, length-map_sources old c.args.refs.now) in
    (all_placed c.loop-number.invariant past).refs_are

pub returns-clause-written : goal.returns-clause-written
returns-clause-written c =
    let old = seen_refs c.args.old.now in
    let past : length (map_sources old c.args.refs.now) ≤ c.loop-number.number = omega (arith, length-map_sources old c.args.refs.now) in
    (all_placed c.loop-number.invariant past).pages_are

pub returns-clause-taken : goal.returns-clause-taken
returns-clause-taken c =
    let old = seen_refs c.args.old.now in
    let past : length (map_sources old c.args.refs.now) ≤ c.loop-number.number = omega (arith, length-map_sources old c.args.refs.now) in
    (all_placed c.loop-number.invariant past).taken
