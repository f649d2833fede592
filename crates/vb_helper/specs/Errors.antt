-- What an error of the disk is to one who repairs a page.
use Rattle.vb_disk.specs.declared.disk_error.DiskError.{DiskError}
use Rattle.vb_disk.specs.declared.disk_error.DiskError.TheVariants as disk_errors
use Rattle.vb_helper.specs.declared.refetch_error.RefetchError.{RefetchError}
use Rattle.vb_helper.specs.declared.refetch_error.RefetchError.TheVariants.{DiskFault, Memory}

-- what an error of the disk is to one who repairs a page
abbrev pub error_of : DiskError → RefetchError
error_of disk_errors.Failed = DiskFault
error_of disk_errors.Memory = Memory
