-- Messages that a cloud takes one after the other.
use Rattle.std.specs.Prelude.{List, [], ◌∷◌, Result, Ok, Err}
use Rattle.vb_msg.specs.declared.message.Msg.{Msg}
use Rattle.vb_cloud.specs.declared.refusal.CloudRefusal.{CloudRefusal}
use Rattle.vb_cloud.specs.Machine.{CloudState, cloud_step}

-- what comes next for the state that a step leaves; the refusal where it is refused
abbrev pub through_step : Result CloudState CloudRefusal → (CloudState → Result CloudState CloudRefusal) → Result CloudState CloudRefusal
through_step (Ok after) next = next after
through_step (Err refusal) next = Err refusal

-- what messages leave of a cloud where it takes each of them, and else the first refusal
abbrev pub through : CloudState → List Msg → Result CloudState CloudRefusal
through k [] = Ok k
through k (m ∷ ms) = through_step (cloud_step k m) (λ after. through after ms)
