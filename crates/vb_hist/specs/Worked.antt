-- Histories worked by hand: each with what survives of it, its marks and its folder.
use Rattle.std.specs.Prelude.{◌≡◌, ℕ, List, [], ◌∷◌, Some, None}
use Rattle.vb_tree.specs.declared.tree.Kind.TheVariants.{File}
use Rattle.vb_tree.specs.declared.tree.Limits.{Limits}
use Rattle.vb_tree.specs.declared.tree.TreeEntry.{TreeEntry}
use Rattle.vb_tree.specs.declared.operation.Op.TheVariants.{Create}
use Rattle.vb_tree.specs.declared.reply.Reply.TheVariants.{Done}
use Rattle.vb_hist.specs.declared.entry.Entry.{Entry}
use Rattle.vb_hist.specs.declared.entry.Entry.TheVariants.{Call, Freeze, Commit, Rest, Publish, Doubt, Dropped, End, Cut}
use Rattle.vb_hist.specs.declared.entry.Stage.TheVariants.{Rested, Written}
use Rattle.vb_hist.specs.declared.marks.Marks.{Marks}
use Rattle.vb_hist.specs.Histories.{surviving}
use Rattle.vb_hist.specs.Legal.{IsLegal, Opening, folder_of, marks_of}

-- the limits of a small store
abbrev pub small : Limits
small = record { pages = 8; nodes = 16 }

-- the limits of a larger one
abbrev pub large : Limits
large = record { pages = 64; nodes = 32 }

-- an empty file of a name of one byte
abbrev pub file : ℕ → TreeEntry
file name = record { path = (name ∷ []) ∷ []; kind = File; bytes = [] }

-- the call that makes such a file
abbrev pub makes : ℕ → Entry
makes name = Call 1 (Create ((name ∷ []) ∷ [])) Done

-- a new folder
abbrev pub new_folder : Opening
new_folder = record { limits = small; base = []; start = 0; published = 0; published_tree = []; disk_faults = 0; link_faults = 0 }

-- a folder whose store is at epoch 5 where its cloud shows 3
abbrev pub ahead_of_cloud : Opening
ahead_of_cloud = record { limits = small; base = file 97 ∷ []; start = 5; published = 3; published_tree = []; disk_faults = 0; link_faults = 0 }

-- a history with what it comes to
pub record Worked : Type 0 where
  pub history : List Entry
  pub survives : List Entry
  pub marks : Marks
  pub folder : List TreeEntry

-- it is legal, and comes to that
pub record IsWorkedOut (o : Opening) (w : Worked) : Type 0 where
  pub legal : IsLegal o w.history
  pub survives : surviving o.start w.history ≡ w.survives
  pub marks : marks_of o w.history ≡ w.marks
  pub folder : folder_of o w.history ≡ w.folder

-- the power goes before the first head of a commit is written: the mount is at the epoch before
abbrev pub before_first_head : Worked
before_first_head = record {
  history = makes 97 ∷ Freeze 1 1 ∷ Cut 0 small ∷ [];
  survives = Cut 0 small ∷ [];
  marks = record { last = 0; standing = None; stage = Rested; doubt = None; published = 0; limits = small };
  folder = [];
}

-- the power goes after it: the mount is at the epoch that was being written
abbrev pub after_first_head : Worked
after_first_head = record {
  history = makes 97 ∷ Freeze 1 1 ∷ Cut 1 small ∷ [];
  survives = makes 97 ∷ Freeze 1 1 ∷ Cut 1 small ∷ [];
  marks = record { last = 1; standing = Some 1; stage = Rested; doubt = None; published = 0; limits = small };
  folder = file 97 ∷ [];
}

-- a call behind the last freeze is lost, and one before it isn't
abbrev pub lost_calls : Worked
lost_calls = record {
  history = makes 97 ∷ Freeze 1 1 ∷ Commit 1 ∷ Rest 1 ∷ makes 98 ∷ Cut 1 small ∷ [];
  survives = makes 97 ∷ Freeze 1 1 ∷ Cut 1 small ∷ [];
  marks = record { last = 1; standing = Some 1; stage = Rested; doubt = None; published = 0; limits = small };
  folder = file 97 ∷ [];
}

-- a doubt of an earlier epoch outlives the cut
abbrev pub doubt_outlives : Worked
doubt_outlives = record {
  history = makes 97 ∷ Freeze 1 1 ∷ Commit 1 ∷ Rest 1 ∷ Doubt 1 ∷ Dropped 1 ∷ makes 98 ∷ Freeze 1 2 ∷ Commit 2 ∷ Cut 2 small ∷ [];
  survives = makes 97 ∷ Freeze 1 1 ∷ Commit 1 ∷ Rest 1 ∷ Doubt 1 ∷ Dropped 1 ∷ makes 98 ∷ Freeze 1 2 ∷ Cut 2 small ∷ [];
  marks = record { last = 2; standing = Some 2; stage = Rested; doubt = Some 1; published = 0; limits = small };
  folder = file 97 ∷ file 98 ∷ [];
}

-- a doubt of the epoch of the cut goes
abbrev pub doubt_goes : Worked
doubt_goes = record {
  history = makes 97 ∷ Freeze 1 1 ∷ Commit 1 ∷ Rest 1 ∷ Doubt 1 ∷ Cut 1 small ∷ [];
  survives = makes 97 ∷ Freeze 1 1 ∷ Cut 1 small ∷ [];
  marks = record { last = 1; standing = Some 1; stage = Rested; doubt = None; published = 0; limits = small };
  folder = file 97 ∷ [];
}

-- a doubt of the epoch of the cut goes, and an older one is left
abbrev pub older_doubt_returns : Worked
older_doubt_returns = record {
  history = makes 97 ∷ Freeze 1 1 ∷ Commit 1 ∷ Doubt 1 ∷ Dropped 1 ∷ Rest 1 ∷ Freeze 1 2 ∷ Commit 2 ∷ Doubt 2 ∷ Cut 2 small ∷ [];
  survives = makes 97 ∷ Freeze 1 1 ∷ Commit 1 ∷ Doubt 1 ∷ Dropped 1 ∷ Rest 1 ∷ Freeze 1 2 ∷ Cut 2 small ∷ [];
  marks = record { last = 2; standing = Some 2; stage = Rested; doubt = Some 1; published = 0; limits = small };
  folder = file 97 ∷ [];
}

-- a rollback to the published epoch, in a larger store: its publication isn't undone
abbrev pub rollback : Worked
rollback = record {
  history = makes 97 ∷ Freeze 1 1 ∷ Commit 1 ∷ Rest 1 ∷ Publish 1 ∷ makes 98 ∷ Freeze 1 2 ∷ Commit 2 ∷ Rest 2 ∷ Cut 1 large ∷ [];
  survives = makes 97 ∷ Freeze 1 1 ∷ Cut 1 large ∷ Publish 1 ∷ [];
  marks = record { last = 1; standing = None; stage = Rested; doubt = None; published = 1; limits = large };
  folder = file 97 ∷ [];
}

-- a rollback to the epoch in doubt, which the cloud had taken: its publication follows
abbrev pub rollback_to_doubt : Worked
rollback_to_doubt = record {
  history = makes 97 ∷ Freeze 1 1 ∷ Commit 1 ∷ Doubt 1 ∷ Dropped 1 ∷ Rest 1 ∷ makes 98 ∷ Freeze 1 2 ∷ Cut 1 small ∷ Publish 1 ∷ [];
  survives = makes 97 ∷ Freeze 1 1 ∷ Cut 1 small ∷ Publish 1 ∷ [];
  marks = record { last = 1; standing = None; stage = Rested; doubt = None; published = 1; limits = small };
  folder = file 97 ∷ [];
}

-- a rollback behind a mount: what the mount kept of the later epoch goes
abbrev pub cut_behind_cut : Worked
cut_behind_cut = record {
  history = makes 97 ∷ Freeze 1 1 ∷ Commit 1 ∷ Publish 1 ∷ Rest 1 ∷ makes 98 ∷ Freeze 1 2 ∷ Cut 2 small ∷ makes 99 ∷ Cut 1 small ∷ [];
  survives = makes 97 ∷ Freeze 1 1 ∷ Cut 1 small ∷ Publish 1 ∷ [];
  marks = record { last = 1; standing = None; stage = Rested; doubt = None; published = 1; limits = small };
  folder = file 97 ∷ [];
}

-- a publication follows a cut, since the cut's view stands
abbrev pub publication_follows : Worked
publication_follows = record {
  history = makes 97 ∷ Freeze 1 1 ∷ Cut 1 small ∷ Publish 1 ∷ makes 98 ∷ Freeze 1 2 ∷ [];
  survives = makes 97 ∷ Freeze 1 1 ∷ Cut 1 small ∷ Publish 1 ∷ makes 98 ∷ Freeze 1 2 ∷ [];
  marks = record { last = 2; standing = Some 2; stage = Written; doubt = None; published = 1; limits = small };
  folder = file 97 ∷ file 98 ∷ [];
}

-- a publication of a doubt that outlived a cut leaves the later view standing
abbrev pub doubt_published_later : Worked
doubt_published_later = record {
  history = makes 97 ∷ Freeze 1 1 ∷ Commit 1 ∷ Doubt 1 ∷ Dropped 1 ∷ Rest 1 ∷ makes 98 ∷ Freeze 1 2 ∷ Cut 2 small ∷ Publish 1 ∷ [];
  survives = makes 97 ∷ Freeze 1 1 ∷ Commit 1 ∷ Doubt 1 ∷ Dropped 1 ∷ Rest 1 ∷ makes 98 ∷ Freeze 1 2 ∷ Cut 2 small ∷ Publish 1 ∷ [];
  marks = record { last = 2; standing = Some 2; stage = Rested; doubt = None; published = 1; limits = small };
  folder = file 97 ∷ file 98 ∷ [];
}

-- after a rollback an epoch's number comes again, for another tree
abbrev pub number_comes_again : Worked
number_comes_again = record {
  history = makes 97 ∷ Freeze 1 1 ∷ Commit 1 ∷ Publish 1 ∷ Rest 1 ∷ makes 98 ∷ Freeze 1 2 ∷ Commit 2 ∷ Rest 2 ∷ Cut 1 small ∷ makes 99 ∷ Freeze 1 2 ∷ [];
  survives = makes 97 ∷ Freeze 1 1 ∷ Cut 1 small ∷ Publish 1 ∷ makes 99 ∷ Freeze 1 2 ∷ [];
  marks = record { last = 2; standing = Some 2; stage = Written; doubt = None; published = 1; limits = small };
  folder = file 97 ∷ file 99 ∷ [];
}

-- two cuts to one epoch in a row: the second stands in place of the first, with its limits
abbrev pub two_cuts : Worked
two_cuts = record {
  history = makes 97 ∷ Freeze 1 1 ∷ Commit 1 ∷ Cut 1 small ∷ Cut 1 large ∷ [];
  survives = makes 97 ∷ Freeze 1 1 ∷ Cut 1 large ∷ [];
  marks = record { last = 1; standing = Some 1; stage = Rested; doubt = None; published = 0; limits = large };
  folder = file 97 ∷ [];
}

-- a cut to the start, where nothing was frozen
abbrev pub cut_to_start : Worked
cut_to_start = record {
  history = makes 97 ∷ End 1 ∷ Cut 0 small ∷ [];
  survives = Cut 0 small ∷ [];
  marks = record { last = 0; standing = None; stage = Rested; doubt = None; published = 0; limits = small };
  folder = [];
}

-- a store that is ahead of its cloud: its view stands at the start, is in doubt, and is published after a cut
abbrev pub cloud_behind : Worked
cloud_behind = record {
  history = makes 98 ∷ Doubt 5 ∷ Cut 5 small ∷ Publish 5 ∷ [];
  survives = Cut 5 small ∷ Publish 5 ∷ [];
  marks = record { last = 5; standing = None; stage = Rested; doubt = None; published = 5; limits = small };
  folder = file 97 ∷ [];
}
