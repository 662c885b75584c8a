use native.Mathlib.Omega.{arith}
use Rattle.capability_engine.proofs.RemapPlaces.{zip-free, zip_first, zip-next, zip_in}
use Rattle.capability_engine.proofs.remapper.Remapper.put.Goals as goal

pub offset_bounds-self-x : goal.offset_bounds-self-x
offset_bounds-self-x c = record { fits = omega (arith, zip-free _ _ _ _ _ c.requires.1.zip c.requires.1.few) }

pub bounds-self-x : goal.bounds-self-x
bounds-self-x c = zip-free _ _ _ _ _ c.requires.1.zip c.requires.1.few

pub link-head-requires : goal.link-head-requires
link-head-requires c = (zip_first _ _ _ _ _ c.requires.1.zip, zip-free _ _ _ _ _ c.requires.1.zip c.requires.1.few)

pub allocate-requires : goal.allocate-requires
allocate-requires c = let w = c.requires.1.zip in record { n = 64; calls = w.owns.calls; grown = w.owns.grown }

pub returns : goal.returns
returns c = λ at done left w few. rw (c.link-head.ensures.0, c.link-head.ensures.1, ← zip-next _ _ _ _ _ w) (zip_in _ _ _ done left _ w few c.requires.0 _ c.allocate.new.self c.allocate.result c.allocate.ensures)
