use Rattle.std.proofs.Common.{inl, inr, refl, arith}
use Rattle.vb_hist.proofs.examples.histories_worked_by_hand.Goals as goal

pub returns-clause-before_first_head : goal.returns-clause-before_first_head
returns-clause-before_first_head c = record {
  legal = (refl, tt, ((refl, refl, refl), tt, (inr (inl (refl, refl)), refl, tt)));
  survives = refl;
  marks = refl;
  folder = refl;
}

pub returns-clause-after_first_head : goal.returns-clause-after_first_head
returns-clause-after_first_head c = record {
  legal = (refl, tt, ((refl, refl, refl), tt, (inl refl, refl, tt)));
  survives = refl;
  marks = refl;
  folder = refl;
}

pub returns-clause-lost_calls : goal.returns-clause-lost_calls
returns-clause-lost_calls c = record {
  legal = (refl, tt, ((refl, refl, refl), tt, ((refl, refl), tt, ((refl, refl), tt, (refl, tt, (inl refl, refl, tt))))));
  survives = refl;
  marks = refl;
  folder = refl;
}

pub returns-clause-doubt_outlives : goal.returns-clause-doubt_outlives
returns-clause-doubt_outlives c = record {
  legal = (refl, tt, ((refl, refl, refl), tt, ((refl, refl), tt, ((refl, refl), tt, ((refl, λ w. cc), tt, (refl, tt, (refl, tt, ((refl, refl, refl), tt, ((refl, refl), tt, (inl refl, refl, tt))))))))));
  survives = refl;
  marks = refl;
  folder = refl;
}

pub returns-clause-doubt_goes : goal.returns-clause-doubt_goes
returns-clause-doubt_goes c = record {
  legal = (refl, tt, ((refl, refl, refl), tt, ((refl, refl), tt, ((refl, refl), tt, ((refl, λ w. cc), tt, (inl refl, refl, tt))))));
  survives = refl;
  marks = refl;
  folder = refl;
}

pub returns-clause-older_doubt_returns : goal.returns-clause-older_doubt_returns
returns-clause-older_doubt_returns c = record {
  legal = (refl, tt, ((refl, refl, refl), tt, ((refl, refl), tt, ((refl, λ w. cc), tt, (refl, tt, ((refl, refl), tt, ((refl, refl, refl), tt, ((refl, refl), tt, ((refl, λ w. cc), tt, (inl refl, refl, tt))))))))));
  survives = refl;
  marks = refl;
  folder = refl;
}

pub returns-clause-rollback : goal.returns-clause-rollback
returns-clause-rollback c = record {
  legal = (refl, tt, ((refl, refl, refl), tt, ((refl, refl), tt, ((refl, refl), tt, ((omega arith, inl (refl, λ w. cc)), tt, (refl, tt, ((refl, refl, refl), tt, ((refl, refl), tt, ((refl, refl), tt, (inr (inr (inl refl)), refl, tt))))))))));
  survives = refl;
  marks = refl;
  folder = refl;
}

pub returns-clause-rollback_to_doubt : goal.returns-clause-rollback_to_doubt
returns-clause-rollback_to_doubt c = record {
  legal = (refl, tt, ((refl, refl, refl), tt, ((refl, refl), tt, ((refl, λ w. cc), tt, (refl, tt, ((refl, refl), tt, (refl, tt, ((refl, refl, refl), tt, (inr (inl (refl, refl)), refl, ((omega arith, inl (refl, λ w. cc)), tt, tt))))))))));
  survives = refl;
  marks = refl;
  folder = refl;
}

pub returns-clause-cut_behind_cut : goal.returns-clause-cut_behind_cut
returns-clause-cut_behind_cut c = record {
  legal = (refl, tt, ((refl, refl, refl), tt, ((refl, refl), tt, ((omega arith, inl (refl, λ w. cc)), tt, ((refl, refl), tt, (refl, tt, ((refl, refl, refl), tt, (inl refl, refl, (refl, tt, (inr (inr (inl refl)), refl, tt))))))))));
  survives = refl;
  marks = refl;
  folder = refl;
}

pub returns-clause-publication_follows : goal.returns-clause-publication_follows
returns-clause-publication_follows c = record {
  legal = (refl, tt, ((refl, refl, refl), tt, (inl refl, refl, ((omega arith, inl (refl, λ w. cc)), tt, (refl, tt, ((refl, refl, refl), tt, tt))))));
  survives = refl;
  marks = refl;
  folder = refl;
}

pub returns-clause-doubt_published_later : goal.returns-clause-doubt_published_later
returns-clause-doubt_published_later c = record {
  legal = (refl, tt, ((refl, refl, refl), tt, ((refl, refl), tt, ((refl, λ w. cc), tt, (refl, tt, ((refl, refl), tt, (refl, tt, ((refl, refl, refl), tt, (inl refl, refl, ((omega arith, inr refl), tt, tt))))))))));
  survives = refl;
  marks = refl;
  folder = refl;
}

pub returns-clause-number_comes_again : goal.returns-clause-number_comes_again
returns-clause-number_comes_again c = record {
  legal = (refl, tt, ((refl, refl, refl), tt, ((refl, refl), tt, ((omega arith, inl (refl, λ w. cc)), tt, ((refl, refl), tt, (refl, tt, ((refl, refl, refl), tt, ((refl, refl), tt, ((refl, refl), tt, (inr (inr (inl refl)), refl, (refl, tt, ((refl, refl, refl), tt, tt))))))))))));
  survives = refl;
  marks = refl;
  folder = refl;
}

pub returns-clause-two_cuts : goal.returns-clause-two_cuts
returns-clause-two_cuts c = record {
  legal = (refl, tt, ((refl, refl, refl), tt, ((refl, refl), tt, (inl refl, refl, (inl refl, refl, tt)))));
  survives = refl;
  marks = refl;
  folder = refl;
}

pub returns-clause-cut_to_start : goal.returns-clause-cut_to_start
returns-clause-cut_to_start c = record {
  legal = (refl, tt, (tt, tt, (inl refl, refl, tt)));
  survives = refl;
  marks = refl;
  folder = refl;
}

pub returns-clause-cloud_behind : goal.returns-clause-cloud_behind
returns-clause-cloud_behind c = record {
  legal = (refl, tt, ((refl, λ w. cc), tt, (inl refl, refl, ((omega arith, inl (refl, λ w. cc)), tt, tt))));
  survives = refl;
  marks = refl;
  folder = refl;
}
