-- The value that contracts see of a replica's fields.
use Rattle.replica.specs.Replica.{Replica}
use Rattle.replica.specs.declared.replica.Replica.TheInside.{Inside}

abbrev pub replica_of : {A P : Type 0} → Inside A P → Replica
replica_of r = record {
  window = r.window;
  position = r.position;
  stopped = r.stopped;
  certifications = r.certifications.items;
  memory = r.certifier.memory;
  versions = r.versions;
  procedures = r.procedures;
}
