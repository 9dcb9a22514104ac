-- Origins of paths, worked out.
use Rattle.std.proofs.Common.{◌≡◌, ℕ, [], ◌∷◌, Some, None, Ok, Err, refl}
use Rattle.vrps.specs.Path.{origin_of_final, origin_of_path, origin_of_segment}
use Rattle.vrps.specs.declared.path.Segment.{Segment}
use Rattle.vrps.specs.declared.path.PathFault.TheVariants.{EmptySequence}
use Rattle.vrps.specs.declared.path.SegmentKind.TheVariants as kinds

no_segment : origin_of_final None 64500 ≡ Ok (Some 64500)
no_segment = refl

sequence : origin_of_segment kinds.Sequence (1 ∷ 2 ∷ 3 ∷ []) 64500 ≡ Ok (Some 3)
sequence = refl

-- a set with one member too
set : origin_of_segment kinds.Set (2 ∷ []) 64500 ≡ Ok None
set = refl

empty_sequence : origin_of_segment kinds.Sequence [] 64500 ≡ Err EmptySequence
empty_sequence = refl

-- the final segment decides, whatever is before it
final_alone : (s t : Segment) (own : ℕ) → origin_of_path (s ∷ t ∷ []) own ≡ origin_of_final (Some t) own
final_alone s t own = refl

no_path : origin_of_path [] 64500 ≡ Ok (Some 64500)
no_path = refl

empty_set : origin_of_segment kinds.Set [] 64500 ≡ Ok None
empty_set = refl

confed_sequence : origin_of_segment kinds.ConfedSequence (65001 ∷ []) 64500 ≡ Ok (Some 64500)
confed_sequence = refl

confederation : origin_of_segment kinds.ConfedSet (7 ∷ []) 64500 ≡ Ok (Some 64500)
confederation = refl
