-- Trust anchors, worked out.
use Rattle.std.specs.Prelude.{◌≡◌, true, false, [], ◌∷◌, Some, None, refl}
use Rattle.resources.specs.declared.choice.ResourceChoice.TheVariants.{Inherit, Listed}
use Rattle.trust_anchors.specs.Anchors.{inherits}

-- the anchor of an RIR: all addresses and all AS numbers
all : inherits (
  Some (record {
    v4 = Some (Listed (record { low = 0; high = 0xffffffff } ∷ []));
    v6 = Some (Listed (record { low = 0; high = 0xffffffffffffffffffffffffffffffff } ∷ []));
  }),
  Some (Listed (record { low = 0; high = 0xffffffff } ∷ [])),
) ≡ false
all = refl

none : inherits (None, None) ≡ false
none = refl

-- one family is enough
v6_alone : inherits (Some (record { v4 = Some (Listed (record { low = 0; high = 1 } ∷ [])); v6 = Some Inherit }), None) ≡ true
v6_alone = refl

v4_alone : inherits (Some (record { v4 = Some Inherit; v6 = None }), None) ≡ true
v4_alone = refl

-- and so are AS numbers
as_alone : inherits (None, Some Inherit) ≡ true
as_alone = refl
