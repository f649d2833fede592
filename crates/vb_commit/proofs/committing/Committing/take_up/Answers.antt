use Rattle.std.proofs.Common.{ap}
use Rattle.vb_commit.specs.Ways.{WayState}
use Rattle.vb_journal.specs.Commits.{epoch_of, head_of}
use Rattle.vb_commit.proofs.WayClauses.{taken-up}
use Rattle.vb_commit.proofs.committing.Committing.take_up.Goals as goal

pub invariant_of-self : goal.invariant_of-self
invariant_of-self c = record {
  way = taken-up c.args.self.now (head_of c.self.inside.commit) (epoch_of c.self.inside.commit) c.args.plan c.next_page.new.self c.in-Some.due
      (ap (λ (s : WayState). s.head) c.self.view_is) (ap (λ (s : WayState). s.epoch) c.self.view_is) c.requires.can c.requires.places c.in-Some.ensures.next;
  head = c.self.invariant.head;
  epoch = c.self.invariant.epoch;
}

pub invariant_of-self-in-Some-2 : goal.invariant_of-self-in-Some-2
invariant_of-self-in-Some-2 c = record {
  way = taken-up c.args.self.now (head_of c.self.inside.commit) (epoch_of c.self.inside.commit) c.args.plan c.next_page.new.self c.in-Some.due
      (ap (λ (s : WayState). s.head) c.self.view_is) (ap (λ (s : WayState). s.epoch) c.self.view_is) c.requires.can c.requires.places c.in-Some.ensures.next;
  head = c.self.invariant.head;
  epoch = c.self.invariant.epoch;
}
