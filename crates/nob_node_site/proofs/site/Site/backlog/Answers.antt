use Rattle.nob_node_site.proofs.site.Site.backlog.Goals as goal

pub returns : goal.returns
returns g c = (c.args.self.now.keeper.identity, c.backlog.ensures)
