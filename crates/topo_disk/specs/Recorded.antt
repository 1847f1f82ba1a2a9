-- What a disk in memory has recorded.
use Rattle.std.specs.Prelude.{List}
use Rattle.topo_disk.specs.declared.call.Called.{Called}
use Rattle.topo_disk.specs.declared.mem_disk.MemDisk.{MemDisk}

-- its calls so far, in order
abbrev pub calls_of : MemDisk → List Called
calls_of disk = disk.calls.calls.items
