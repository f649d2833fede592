use Rattle.std.proofs.Common.{◌≡◌, ◌≤◌, ◌++◌, map, take, drop}
use Rattle.vb_space.specs.Free.{settled, free_from}
use Rattle.vb_space.proofs.settle.settle.Given as goal

abbrev pub invariant-loop-i : goal.invariant-loop-i
invariant-loop-i l = record {
  users : l.users ≡ map settled (take l.i l.initial.users) ++ drop l.i l.initial.users;
  listed : take l.count l.free ≡ free_from l.first (take l.i l.users);
  count : l.count ≤ l.i;
}
