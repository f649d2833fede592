-- The fields of a node block without where they lie in memory.
use Rattle.vb_inode.specs.Layout.{Fields}
use Rattle.vb_inode.specs.declared.fields.NodeFields.{NodeFields}

-- the fields, each as the number or the bytes that it is
abbrev pub fields_of : NodeFields → Fields
fields_of f = record {
  slot = f.slot;
  kind = f.kind;
  parent = f.parent;
  name_length = f.name_length;
  file_length = f.file_length;
  map_count = f.map_count;
  gap = f.gap.now;
  name = f.name.now;
  maps = f.maps.now;
}
