-- The tables beside those of nob_check_tables.
use Rattle.std.specs.Prelude.{ℕ, List, []}
use Rattle.nob_model_types.specs.declared.deed.Deed.{Deed}
use Rattle.nob_check_tables.specs.declared.tables.Tables.{Tables}
use Rattle.nob_check_index.specs.Counts.{gains_of, gains_after, releases_of, releases_after}
use Rattle.nob_check_index.specs.Exports.{exports_of, exports_after, withdrawals_of, withdrawals_after}
use Rattle.nob_check_index.specs.Settlements.{settlements_of, settlements_after}
use Rattle.nob_check_index.specs.Sources.{sources_of, sources_after}
use Rattle.nob_check_index.specs.ActedSessions.{sessions_of, sessions_after}
use Rattle.nob_check_index.specs.declared.more.MoreTables.{MoreTables}

-- the tables where nothing was done
abbrev pub no_more : MoreTables
no_more = record {
  objects = record { exports = []; withdrawals = [] };
  hand = record { gains = []; releases = [] };
  traffic = record { settlements = []; sources = []; sessions = [] };
}

-- the tables of space s, among n, that did this
abbrev pub more_of : (s n : ℕ) → List Deed → MoreTables
more_of s n D = record {
  objects = record { exports = exports_of D; withdrawals = withdrawals_of D };
  hand = record { gains = gains_of D; releases = releases_of D };
  traffic = record { settlements = settlements_of s n D; sources = sources_of s n D; sessions = sessions_of s n D };
}

-- the tables after a deed, by those of nob_check_tables before it
abbrev pub more_after : Deed → Tables → MoreTables → MoreTables
more_after deed tables more = record {
  objects = record {
    exports = exports_after deed more.objects.exports;
    withdrawals = withdrawals_after deed more.objects.withdrawals;
  };
  hand = record {
    gains = gains_after deed more.hand.gains;
    releases = releases_after deed more.hand.releases;
  };
  traffic = record {
    settlements = settlements_after deed tables.came more.traffic.settlements;
    sources = sources_after deed tables more.traffic.sources;
    sessions = sessions_after deed tables more.traffic.sessions;
  };
}
