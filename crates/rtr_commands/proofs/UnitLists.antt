-- PDUs that are shown one after the other.
use Rattle.std.proofs.Common.{◌≡◌, ℕ, ◌-◌, ◌++◌, false, List, [], ◌∷◌, length, Option, Some, None, Result, Ok, Err, ◌<◌, ◌≤◌, arith, length-append, refl, ap, sym, subst, ◌∙◌, append_assoc, append-nil}
use Rattle.std.specs.List.{flat_map}
use Rattle.std.specs.Io.KnownBytes.{Appends}
use Rattle.std.proofs.KnownBytes.{Appends-nil, Appends-trans}
use Rattle.std.proofs.lemmas.List.Concat.{flat_map-append}
use Rattle.rtr_pdu.specs.Version.{first_version}
use Rattle.rtr_pdu.specs.declared.version.Version.{Version}
use Rattle.rtr_pdu.specs.Device.{ReadAnswers, ReadsUnit}
use Rattle.rtr_pdu.specs.declared.device.ReadFault.{ReadFault}
use Rattle.rtr_pdu.specs.declared.device.ReadFault.TheVariants as read_faults
use Rattle.rtr_pdu.specs.Fault.{fault_number}
use Rattle.rtr_pdu.specs.Stream.{Splits, end_fault}
use Rattle.rtr_pdu.specs.declared.unit.Unit.{Unit}
use Rattle.rtr_pdu.specs.declared.unit.UnitFault.{UnitFault}
use Rattle.rtr_pdu.specs.Reader.{IsRead}
use Rattle.rtr_pdu.proofs.FirstLaws.{tells_first}
use Rattle.rtr_pdu.proofs.ReaderLaws.{partial_empty}
use Rattle.rtr_pdu.proofs.StreamLaws.{long_front}
use Rattle.rtr_commands.specs.UnitLines.{TellsUnits, unit_line}
use Rattle.rtr_commands.specs.declared.unit_lines.UnitsEnd.TheVariants.{Whole, Refused}

-- what is read in the version of the first header
pub of_first : (bytes : List ℕ) (v : Version) (before left : Option (List ℕ)) (calls now : ℕ) (answer : Result (Option Unit) ReadFault) → v ≡ first_version bytes → ReadsUnit v before left calls now answer → ReadsUnit (first_version bytes) before left calls now answer
of_first bytes v before left calls now answer e r = subst (λ (x : Version). ReadsUnit x before left calls now answer) e r

-- PDUs with which the bytes begin are printed, and the split of what is left continues behind them
pub record Told (bytes left : List ℕ) (old now : Option (List ℕ)) : Type 0 where
  pub units : List Unit
  pub front : List ℕ
  pub whole : bytes ≡ front ++ left
  pub printed : Appends old now (flat_map unit_line units)
  pub goes_on : (more : List Unit) (rest : List ℕ) (fault : Option UnitFault) → Splits (first_version bytes) false left more rest fault → Splits (first_version bytes) false bytes (units ++ more) rest fault

pub told_none : (bytes : List ℕ) (a : Option (List ℕ)) → Told bytes bytes a a
told_none bytes a = record { units = []; front = []; whole = refl; printed = Appends-nil a; goes_on = λ more rest fault splits. splits }

-- one PDU more
pub told_more : (bytes left read next : List ℕ) (a b c : Option (List ℕ)) (u : Unit) (found : Option Unit) → Told bytes left a b → left ≡ read ++ next → found ≡ Some u → ReadAnswers (first_version bytes) read (Some next) (Ok found) → Appends b c (unit_line u)
    → Told bytes next a c
told_more bytes left read next a b c u found t parts e answers line = record {
  units = t.units ++ u ∷ [];
  front = t.front ++ read;
  whole = t.whole ∙ ap (λ (x : List ℕ). t.front ++ x) parts ∙ sym (append_assoc t.front read next);
  printed = subst (λ (x : List ℕ). Appends a c x)
      (ap (λ (x : List ℕ). flat_map unit_line t.units ++ x) (sym (append-nil (unit_line u))) ∙ sym (flat_map-append unit_line t.units (u ∷ [])))
      (Appends-trans a b c (flat_map unit_line t.units) (unit_line u) t.printed line);
  goes_on = λ more rest fault splits.
      subst (λ (us : List Unit). Splits (first_version bytes) false bytes us rest fault) (sym (append_assoc t.units (u ∷ []) more))
      (t.goes_on (u ∷ more) rest fault
      (subst (λ (x : List ℕ). Splits (first_version bytes) false x (u ∷ more) rest fault) (sym parts) (tells_first (first_version bytes) read next (Ok (Some u)) (subst (λ (x : Option Unit). ReadAnswers (first_version bytes) read (Some next) (Ok x)) e answers) more rest fault splits)));
}

-- a PDU has bytes
pub told_less : (bytes left read next : List ℕ) (u : Unit) (found : Option Unit) → left ≡ read ++ next → found ≡ Some u → ReadAnswers (first_version bytes) read (Some next) (Ok found) → length next < length left
told_less bytes left read next u found parts e answers =
    let is : IsRead (first_version bytes) false read u = subst (λ (x : Option Unit). ReadAnswers (first_version bytes) read (Some next) (Ok x)) e answers in
    let some : 8 ≤ length read = long_front (first_version bytes) false u read is.reads in omega (arith, ap length parts, length-append read next, some)

-- what is left is no more than all
pub told_most : (bytes left : List ℕ) (a b : Option (List ℕ)) → Told bytes left a b → length left ≤ length bytes
told_most bytes left a b t = omega (arith, ap length t.whole, length-append t.front left)

-- the bytes end behind the PDUs
pub told_whole : (bytes left read next : List ℕ) (a b : Option (List ℕ)) (found : Option Unit) → Told bytes left a b → left ≡ read ++ next → found ≡ None → ReadAnswers (first_version bytes) read (Some next) (Ok found) → TellsUnits bytes a b Whole
told_whole bytes left read next a b found t parts e answers =
    let none : left ≡ [] = parts ∙ tells_first (first_version bytes) read next (Ok None) (subst (λ (x : Option Unit). ReadAnswers (first_version bytes) read (Some next) (Ok x)) e answers) in
    let end : Splits (first_version bytes) false left [] [] None =
    subst (λ (x : List ℕ). Splits (first_version bytes) false x [] [] None) (sym none) (record { front = []; whole = refl; read = refl; after = partial_empty (first_version bytes) false }) in record {
      units = t.units;
      rest = [];
      fault = None;
      splits = subst (λ (us : List Unit). Splits (first_version bytes) false bytes us [] None) (append-nil t.units) (t.goes_on [] [] None end);
      printed = t.printed;
      follows = refl;
    }

-- what is left shows a fault, or is the beginning of a PDU
pub told_fault : (bytes left read next : List ℕ) (a b : Option (List ℕ)) (fault : UnitFault) (found : ReadFault) → Told bytes left a b → left ≡ read ++ next → found ≡ read_faults.Fault fault → ReadAnswers (first_version bytes) read (Some next) (Err found)
    → TellsUnits bytes a b (Refused (fault_number fault) (length bytes - length left))
told_fault bytes left read next a b fault found t parts e answers =
    let (shown, splits, ends) = tells_first (first_version bytes) read next (Err (read_faults.Fault fault)) (subst (λ (x : ReadFault). ReadAnswers (first_version bytes) read (Some next) (Err x)) e answers) in record {
      units = t.units;
      rest = left;
      fault = shown;
      splits = subst (λ (us : List Unit). Splits (first_version bytes) false bytes us left shown) (append-nil t.units) (t.goes_on [] left shown (subst (λ (x : List ℕ). Splits (first_version bytes) false x [] x shown) (sym parts) splits));
      printed = t.printed;
      follows = (refl, fault, subst (λ (x : List ℕ). end_fault x shown ≡ Some fault) (sym parts) ends, refl);
    }
