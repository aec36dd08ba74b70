use Rattle.std.proofs.Common.{[], ◌∷◌, ◌++◌, refl, arith}
use Rattle.pictures.specs.declared.arrivals.Flow.TheVariants.{DownlinkCommands, UplinkCommands, DownlinkData, UplinkData}
use Rattle.pictures.specs.Rows.{of_flow}
use Rattle.pictures.proofs.Flows.{flow_few, grown, kept, row_downlink_commands, row_uplink_commands, row_downlink_data, row_uplink_data, rows_are}
use Rattle.pictures.proofs.rows.Rows.add.Goals as goal

pub add-requires-clause-few : goal.add-requires-clause-few
add-requires-clause-few c = let s = c.requires.few in (of_flow DownlinkCommands s.0, row_downlink_commands c.args.self.now s.0 s.1, omega (arith, flow_few DownlinkCommands s.0, s.2))

pub add-requires-in-UplinkCommands-clause-few : goal.add-requires-in-UplinkCommands-clause-few
add-requires-in-UplinkCommands-clause-few c = let s = c.requires.few in (of_flow UplinkCommands s.0, row_uplink_commands c.args.self.now s.0 s.1, omega (arith, flow_few UplinkCommands s.0, s.2))

pub add-requires-in-DownlinkData-clause-few : goal.add-requires-in-DownlinkData-clause-few
add-requires-in-DownlinkData-clause-few c = let s = c.requires.few in (of_flow DownlinkData s.0, row_downlink_data c.args.self.now s.0 s.1, omega (arith, flow_few DownlinkData s.0, s.2))

pub add-requires-in-UplinkData-clause-few : goal.add-requires-in-UplinkData-clause-few
add-requires-in-UplinkData-clause-few c = let s = c.requires.few in (of_flow UplinkData s.0, row_uplink_data c.args.self.now s.0 s.1, omega (arith, flow_few UplinkData s.0, s.2))

pub returns-in-DownlinkCommands : goal.returns-in-DownlinkCommands
returns-in-DownlinkCommands c came is =
    rows_are _ _ _ _ (came ++ c.args.a ∷ [])
    (grown DownlinkCommands came c.args.a c.add.new.self c.in-DownlinkCommands.is refl (c.add.ensures (of_flow DownlinkCommands came) (row_downlink_commands c.args.self.now came is)))
    (kept UplinkCommands DownlinkCommands came c.args.a _ c.in-DownlinkCommands.is refl (row_uplink_commands c.args.self.now came is))
    (kept DownlinkData DownlinkCommands came c.args.a _ c.in-DownlinkCommands.is refl (row_downlink_data c.args.self.now came is))
    (kept UplinkData DownlinkCommands came c.args.a _ c.in-DownlinkCommands.is refl (row_uplink_data c.args.self.now came is))

pub returns-in-UplinkCommands : goal.returns-in-UplinkCommands
returns-in-UplinkCommands c came is =
    rows_are _ _ _ _ (came ++ c.args.a ∷ [])
    (kept DownlinkCommands UplinkCommands came c.args.a _ c.in-UplinkCommands.is refl (row_downlink_commands c.args.self.now came is))
    (grown UplinkCommands came c.args.a c.add-in-UplinkCommands.new.self c.in-UplinkCommands.is refl (c.add-in-UplinkCommands.ensures (of_flow UplinkCommands came) (row_uplink_commands c.args.self.now came is)))
    (kept DownlinkData UplinkCommands came c.args.a _ c.in-UplinkCommands.is refl (row_downlink_data c.args.self.now came is))
    (kept UplinkData UplinkCommands came c.args.a _ c.in-UplinkCommands.is refl (row_uplink_data c.args.self.now came is))

pub returns-in-DownlinkData : goal.returns-in-DownlinkData
returns-in-DownlinkData c came is =
    rows_are _ _ _ _ (came ++ c.args.a ∷ [])
    (kept DownlinkCommands DownlinkData came c.args.a _ c.in-DownlinkData.is refl (row_downlink_commands c.args.self.now came is))
    (kept UplinkCommands DownlinkData came c.args.a _ c.in-DownlinkData.is refl (row_uplink_commands c.args.self.now came is))
    (grown DownlinkData came c.args.a c.add-in-DownlinkData.new.self c.in-DownlinkData.is refl (c.add-in-DownlinkData.ensures (of_flow DownlinkData came) (row_downlink_data c.args.self.now came is)))
    (kept UplinkData DownlinkData came c.args.a _ c.in-DownlinkData.is refl (row_uplink_data c.args.self.now came is))

pub returns-in-UplinkData : goal.returns-in-UplinkData
returns-in-UplinkData c came is =
    rows_are _ _ _ _ (came ++ c.args.a ∷ [])
    (kept DownlinkCommands UplinkData came c.args.a _ c.in-UplinkData.is refl (row_downlink_commands c.args.self.now came is))
    (kept UplinkCommands UplinkData came c.args.a _ c.in-UplinkData.is refl (row_uplink_commands c.args.self.now came is))
    (kept DownlinkData UplinkData came c.args.a _ c.in-UplinkData.is refl (row_downlink_data c.args.self.now came is))
    (grown UplinkData came c.args.a c.add-in-UplinkData.new.self c.in-UplinkData.is refl (c.add-in-UplinkData.ensures (of_flow UplinkData came) (row_uplink_data c.args.self.now came is)))
