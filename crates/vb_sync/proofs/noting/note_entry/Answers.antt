use Rattle.std.proofs.Common.{ap}
use Rattle.vb_sync.specs.Published.{is_file_kind}
use Rattle.vb_sync.proofs.Indexing.{folder-noted}
use Rattle.vb_sync.proofs.noting.note_entry.Goals as goal

pub returns-in-Folder : goal.returns-in-Folder
returns-in-Folder c = λ entries pages noted is count notes.
    folder-noted c.args.i entries c.args.entry.now pages c.args.contents.now.entries c.args.files.now.entries noted count is (ap is_file_kind c.in-Folder.is) notes

pub returns-in-File : goal.returns-in-File
returns-in-File c = λ entries pages noted is count notes.
    c.note_contents.ensures entries pages noted is count notes (ap is_file_kind c.in-File.is)
