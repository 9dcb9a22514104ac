-- The run of zero groups that is written as `::`.
use Rattle.std.proofs.Common.{arith, refl, inl, inr, lt-ltb, le-ltb}
use Rattle.std.proofs.lemmas.Bool.{cases_lt}
use Rattle.std.specs.Net.Text.{hex_groups_text, longest_zero_run}
use Rattle.std.proofs.NetLemmas.Texts.{IsZeroRun-longest_zero_run, longest_zero_run_first}
use Rattle.prefixes.specs.Text.{FirstLongestRun}

-- `::` is written for the first longest run, and nowhere else.
pub first_longest_run : FirstLongestRun
unfolding hex_groups_text
first_longest_run all =
    let start = (longest_zero_run all).0 in
    let len = (longest_zero_run all).1 in
    let run = IsZeroRun-longest_zero_run all in
    elim (cases_lt 1 len) [
      | inl long ↦ inl (
        start,
        len,
        record {
          chosen = record {
            run = record { within = run.0; zeros = run.1 };
            two = omega arith;
            longest = λ other n r. (longest_zero_run_first all other n (r.within, r.zeros)).0;
            first = λ other r. (longest_zero_run_first all other len (r.within, r.zeros)).1 refl;
          };
          text_is = rw (lt-ltb 1 len long) refl;
        },
      )
      | inr short ↦ inr (record {
        none = λ other r. let most = (longest_zero_run_first all other 2 (r.within, r.zeros)).0 in omega arith;
        text_is = rw (le-ltb 1 len short) refl;
      })
    ]
