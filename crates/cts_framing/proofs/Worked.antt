-- The worked examples.
use Rattle.std.proofs.Common.{ℕ, true, false, List, [], ◌∷◌, refl, arith, None, Some}
use Rattle.cts_bits.specs.Bits.{bits_of}
use Rattle.cts_bits.specs.Fields.{field_at}
use Rattle.cts_def.specs.Protocols.{SpecData, LengthData, FixedData, Length, Terminated, Fixed, Burst}
use Rattle.cts_def.specs.declared.bad_cause.BadCause.TheVariants.{TooLong, UnknownStart}
use Rattle.cts_framing.specs.Framing.{plain}
use Rattle.cts_framing.specs.Cuts.{Ends, Part, IsCut}
use Rattle.cts_framing.specs.Rows.{framing_of, length_states, fixed_states}
use Rattle.cts_framing.specs.WorkedCuts.{WorkedCuts, length_at, ended_by, fixed_by, burst}
use Rattle.cts_framing.proofs.Endings.{open_ends, part_ends, wrong_ends}
use Rattle.cts_framing.proofs.FixedSteady.{fixed_steady}
use Rattle.cts_framing.proofs.Framings.{taken_none, ends_nil}
use Rattle.cts_framing.proofs.LengthSteady.{length_steady}
use Rattle.cts_framing.proofs.Sound.{is_sound}

abbrev part : List ℕ → List ℕ → Part
part gap frame = record { gap = gap; frame = frame }

nil_ends : (s : SpecData) → Ends (framing_of s) [] None
nil_ends s = ends_nil (framing_of s) (is_sound s)

-- the field of 32 bits
waits : Ends (framing_of (Length (length_at 0 32 []))) (0 ∷ 16 ∷ 0 ∷ 0 ∷ []) None
unfolding field_at bits_of
waits = let l : LengthData = length_at 0 32 [] in part_ends [] (length_states l) (framing_of (Length l)).output (length_steady l) (0 ∷ 16 ∷ 0 ∷ 0 ∷ []) 1048576 tt refl (omega arith)

fails : Ends (framing_of (Length (length_at 0 32 []))) (0 ∷ 16 ∷ 0 ∷ 1 ∷ []) (Some TooLong)
unfolding field_at bits_of
fails = let l : LengthData = length_at 0 32 [] in wrong_ends [] (length_states l) (framing_of (Length l)).output (length_steady l) (0 ∷ 16 ∷ 0 ∷ 1 ∷ []) TooLong (omega arith) refl refl

begins_none : Ends (framing_of (Fixed (fixed_by true))) (2 ∷ []) (Some UnknownStart)
unfolding field_at bits_of
begins_none = let f : FixedData = fixed_by true in wrong_ends [] (fixed_states f) (framing_of (Fixed f)).output (fixed_steady f) (2 ∷ []) UnknownStart (omega arith) refl refl

may_begin : Ends (framing_of (Length (length_at 16 16 (26 ∷ 207 ∷ [])))) (26 ∷ []) None
may_begin = let l : LengthData = length_at 16 16 (26 ∷ 207 ∷ []) in open_ends (26 ∷ 207 ∷ []) (length_states l) (framing_of (Length l)).output (length_steady l) (26 ∷ []) (refl, tt) refl

one_piece : (n : ℕ) → IsCut (framing_of (Burst burst)) (n ∷ []) (record { outs = plain (n ∷ []) ∷ []; skipped = 0; empty = 0; rest = []; bad = None })
one_piece n = record {
  taken = record { parts = part [] (n ∷ []) ∷ []; gap = []; cut = ([], refl, refl, tt, refl); clear = tt; outs_are = refl; skipped_is = refl; empty_is = refl };
  ends = nil_ends (Burst burst);
}

pub worked_cuts : WorkedCuts
unfolding field_at bits_of
worked_cuts = record {
  sync = record {
    taken = record {
      parts = part (0 ∷ 26 ∷ []) (26 ∷ 207 ∷ 0 ∷ 6 ∷ 170 ∷ 187 ∷ []) ∷ [];
      gap = [];
      cut = ([], refl, refl, ((λ h. omega (arith, h.0)), ((λ h. omega (arith, h.1.0)), tt)), refl);
      clear = tt;
      outs_are = refl;
      skipped_is = refl;
      empty_is = refl;
    };
    ends = nil_ends (Length (length_at 16 16 (26 ∷ 207 ∷ [])));
  };
  kept = record {
    taken = record { parts = []; gap = 0 ∷ 26 ∷ []; cut = refl; clear = ((λ h. omega (arith, h.0)), ((λ h. omega (arith, h.1.0)), tt)); outs_are = refl; skipped_is = refl; empty_is = refl };
    ends = may_begin;
  };
  empty = record {
    taken = record {
      parts = part [] (65 ∷ 66 ∷ 13 ∷ 10 ∷ []) ∷ part [] (13 ∷ 10 ∷ []) ∷ [];
      gap = [];
      cut = (13 ∷ 10 ∷ [], refl, refl, tt, ([], refl, refl, tt, refl));
      clear = tt;
      outs_are = refl;
      skipped_is = refl;
      empty_is = refl;
    };
    ends = nil_ends (Terminated (ended_by (13 ∷ 10 ∷ [])));
  };
  stages = (
    record {
      taken = record {
        parts = part [] (3 ∷ 17 ∷ 10 ∷ []) ∷ part [] (34 ∷ 10 ∷ []) ∷ [];
        gap = [];
        cut = (34 ∷ 10 ∷ [], refl, refl, tt, ([], refl, refl, tt, refl));
        clear = tt;
        outs_are = refl;
        skipped_is = refl;
        empty_is = refl;
      };
      ends = nil_ends (Terminated (ended_by (10 ∷ [])));
    },
    (
      record {
        taken = record { parts = part [] (3 ∷ 17 ∷ 34 ∷ []) ∷ []; gap = []; cut = ([], refl, refl, tt, refl); clear = tt; outs_are = refl; skipped_is = refl; empty_is = refl };
        ends = nil_ends (Length (length_at 0 8 []));
      },
      refl,
    ),
  );
  pieces = (
    record { outs = plain (1 ∷ []) ∷ []; skipped = 0; empty = 0; rest = []; bad = None },
    record { outs = plain (2 ∷ []) ∷ []; skipped = 0; empty = 0; rest = []; bad = None },
    one_piece 1,
    (
      record { outs = plain (2 ∷ []) ∷ []; skipped = 0; empty = 0; rest = []; bad = None },
      record { outs = []; skipped = 0; empty = 0; rest = []; bad = None },
      one_piece 2,
      record { taken = taken_none (framing_of (Burst burst)) []; ends = nil_ends (Burst burst) },
      refl,
    ),
    refl,
  );
  greatest = record { taken = taken_none (framing_of (Length (length_at 0 32 []))) (0 ∷ 16 ∷ 0 ∷ 0 ∷ []); ends = waits };
  too_long = record { taken = taken_none (framing_of (Length (length_at 0 32 []))) (0 ∷ 16 ∷ 0 ∷ 1 ∷ []); ends = fails };
  starts = record {
    taken = record {
      parts = part [] (1 ∷ 5 ∷ 6 ∷ []) ∷ part [] (1 ∷ 7 ∷ 8 ∷ []) ∷ part [] (2 ∷ []) ∷ [];
      gap = [];
      cut = (1 ∷ 7 ∷ 8 ∷ 2 ∷ [], refl, refl, tt, (2 ∷ [], refl, refl, tt, ([], refl, refl, tt, refl)));
      clear = tt;
      outs_are = refl;
      skipped_is = refl;
      empty_is = refl;
    };
    ends = nil_ends (Fixed (fixed_by false));
  };
  unknown = record {
    taken = record { parts = part [] (1 ∷ 5 ∷ 6 ∷ []) ∷ []; gap = []; cut = (2 ∷ [], refl, refl, tt, refl); clear = tt; outs_are = refl; skipped_is = refl; empty_is = refl };
    ends = begins_none;
  };
}
