use Rattle.vb_helper.proofs.scrub.Scrub.note.Goals as goal

pub returns-in-Err-clause-names : goal.returns-in-Err-clause-names
returns-in-Err-clause-names c = c.note_error.ensures.names c.args.place
