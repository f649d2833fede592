-- What a reader of a log answers.
use Rattle.std.specs.Prelude.{◌≡◌, ℕ, Option, Some, None, Result, Ok, Err}
use Rattle.vb_cloudlog.specs.declared.stop.Stop.{Stop}
use Rattle.vb_cloudlog.specs.declared.replay.FeedError.{FeedError}
use Rattle.vb_cloudlog.specs.declared.replay.FeedError.TheVariants.{Stopped, Memory}

-- Ok where all bytes were taken and the reader goes on; the stop where it stopped; it goes on after want of memory
abbrev pub AnswersFeed : Option Stop → ℕ → ℕ → Result (Unit {0}) FeedError → Type 0
AnswersFeed stop len taken (Ok done) = (taken ≡ len) × (stop ≡ None)
AnswersFeed stop len taken (Err (Stopped at)) = stop ≡ Some at
AnswersFeed stop len taken (Err Memory) = stop ≡ None
