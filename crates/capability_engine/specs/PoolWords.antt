-- A region lies in the words from record_len * i on. `region_at` reads it, `put_region` writes it.
use Rattle.std.specs.Prelude.{ℕ, ◌+◌, ◌*◌, List, get_or}
use Rattle.std.proofs.lemmas.List.Edits.{sets}
use Rattle.definitions.specs.Rights.{Right, READ, WRITE, EXEC, SUPER, UNCACHEABLE, DEVICE, counters_of}
use Rattle.definitions.specs.Pages.{region_group, record_len}
use Rattle.definitions.specs.declared.region.Region.{Region}

-- the words of the 1,024 records
abbrev pub pool_len : ℕ
pool_len = 1024 * record_len

-- which of a record's words is a right's count
abbrev pub place : Right → ℕ
place READ = 3
place WRITE = 4
place EXEC = 5
place SUPER = 6
place UNCACHEABLE = 7
place DEVICE = 8

unfoldable pub region_at : List ℕ → ℕ → Region
region_at ws i = record {
  start = record { 0 = get_or ws (record_len * i) 0 };
  end = record { 0 = get_or ws (record_len * i + 1) 0 };
  values = record {
    refcount = get_or ws (record_len * i + 2) 0;
    counters = counters_of (λ t. get_or ws (record_len * i + place t) 0);
  };
}

unfoldable pub put_region : List ℕ → ℕ → Region → List ℕ
put_region ws i r = sets ws (record_len * i) (region_group r)
