-- What a site, with the limits of its history, gives to events: the environment in which they are done.
use Rattle.std.specs.Prelude.{◌+◌, ℕ, nat_lt, List}
use Rattle.cts_api.specs.Points.{point_of}
use Rattle.cts_api.specs.Replies.{Reply as Answer, IsReply}
use Rattle.cts_connection.specs.Routings.{is_logged, site_routing}
use Rattle.cts_core.specs.States.{Environment}
use Rattle.cts_table.specs.declared.basis.Basis.{Basis}
use Rattle.cts_def.specs.Makers.{first_desk}
use Rattle.cts_def.specs.Sites.{SiteData}
use Rattle.cts_def.specs.declared.time.Time.{Time}
use Rattle.cts_entry.specs.declared.entry.Entry.{Entry}
use Rattle.cts_entry.specs.Legal.{most_entries as entries_limit, most_bytes as bytes_limit}
use Rattle.cts_entry.specs.Workers.{is_slot}
use Rattle.cts_framing.specs.Layouts.{has_flags}
use Rattle.cts_log.specs.Logged.{laid_out}

-- a desk replies by what the site's history says
abbrev pub IsAnswerOf : Basis → List Entry → ℕ → Time → List ℕ → Answer → Type 0
IsAnswerOf base history desk now body a = IsReply (point_of base history) (first_desk + desk) now body a

-- The environment that a site gives with these limits. Desks are counted from 0.
abbrev pub environment_of : Basis → Environment
environment_of base = record {
  routing = site_routing base.site;
  is_slot = is_slot base.site;
  is_desk = λ desk. nat_lt desk base.site.desks;
  is_logged = is_logged base.site;
  layout = laid_out (has_flags base.site.log_layout);
  answers = IsAnswerOf base;
  most_entries = base.entries;
  most_bytes = base.bytes;
}

-- the limits of a server's history
abbrev pub basis_of : SiteData → Basis
basis_of site = record { site = site; entries = entries_limit; bytes = bytes_limit }

-- the environment of a server
abbrev pub site_environment : SiteData → Environment
site_environment site = environment_of (basis_of site)
