-- What a step says in other words for how its machine went on.
use Rattle.std.proofs.Common.{Option, Ok, Err}
use Rattle.vb_disk.specs.declared.disk_error.DiskError.{DiskError}
use Rattle.vb_disk.specs.States.{DiskState}
use Rattle.vb_steps.specs.declared.due.Got.{Got}
use Rattle.vb_steps.specs.Calls.{Call}
use Rattle.vb_steps.specs.Steps.{Steps}

-- it went on, also so
pub steps-as : {T : Type 0} {Goes Other : Got → Type 0} {Stays Like : Type 0} (call : Call) (old new : Option DiskState) (x : T) (steps : Steps {T = T} call Goes Stays old new (Ok x)) → Other steps.went.got → Steps {T = T} call Other Like old new (Ok x)
steps-as call old new x steps goes = record {
  went = record { got = steps.went.got; fits = steps.went.fits; goes = goes; gives = steps.went.gives; made = steps.went.made };
  stays = tt;
  failed = steps.failed;
  memory = steps.memory;
  untold = steps.untold;
  calm = steps.calm;
  moments = steps.moments;
}

-- or it failed, and the machine stays, also so
pub stays-as : {T : Type 0} {Goes Other : Got → Type 0} {Stays Like : Type 0} (call : Call) (old new : Option DiskState) (e : DiskError) (steps : Steps {T = T} call Goes Stays old new (Err e)) → Like → Steps {T = T} call Other Like old new (Err e)
stays-as call old new e steps like = record {
  went = tt;
  stays = like;
  failed = steps.failed;
  memory = steps.memory;
  untold = steps.untold;
  calm = steps.calm;
  moments = steps.moments;
}
