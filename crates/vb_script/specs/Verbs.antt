-- Verbs: what the first word of a line of a writer's section says.

-- the verbs
pub data Verb : Type 0 where
  Create : Verb
  MakeDir : Verb
  Write : Verb
  Truncate : Verb
  Rename : Verb
  Remove : Verb
  RemoveDir : Verb
  Read : Verb
  List : Verb
  Stat : Verb
  Freeze : Verb
